use Rattle.std.proofs.Common.{ℕ, List, map, ap, arith}
use Rattle.std.proofs.lemmas.List.{drop_all}
use Rattle.branch_ring.specs.Profiles.{counted}
use Rattle.place_blocks.specs.Edges.{weight}
use Rattle.place_blocks.specs.Gains.{weight_at}
use Rattle.place_blocks.proofs.Weighing.{weight_step, weight_fits, weight_none}
use Rattle.place_blocks.proofs.weigh.weights_of.Goals as goal

pub add_pair-requires-clause-fits : goal.add_pair-requires-clause-fits
add_pair-requires-clause-fits c =
    λ e. weight_fits c.args.blocks.now c.args.rows.now c.loop-from.from-index (0, 0, 0) c.loop-from-test.true e (weight_at c.loop-from.weights e) c.requires.kept.small (c.loop-from.invariant e)

pub loop-from-preserved : goal.loop-from-preserved
loop-from-preserved c =
    λ e. weight_step c.args.blocks.now c.args.rows.now c.loop-from.from-index (0, 0, 0) c.loop-from-test.true e (weight_at c.loop-from.weights e) (weight_at c.add_pair.new.weights e) (c.loop-from.invariant e) (c.in_ok-add_pair.ensures e)

pub returns : goal.returns
returns c =
    λ e.
    let rest = ap (λ (l : List (ℕ × ℕ × ℕ)). weight c.args.blocks.now (map counted l) e) (drop_all c.loop-from.from-index c.args.rows.now (omega (arith, c.loop-from-test.false))) in
    let none = weight_none c.args.blocks.now e in
    let all = c.loop-from.invariant e in
    omega (arith, rest, none, all)
