use Rattle.std.proofs.Common.{ℕ, List, map, get_or, ap, arith}
use Rattle.std.proofs.lemmas.List.{drop_all}
use Rattle.branch_ring.specs.Profiles.{counted}
use Rattle.seen.specs.Entering.{entered_at}
use Rattle.seen.specs.Profiles.{entered}
use Rattle.seen.proofs.Entered.{entered_more, entered_fits, entered_none}
use Rattle.seen.proofs.profile.counts_of.Goals as goal

pub add-requires : goal.add-requires
add-requires c =
    entered_fits c.args.rows.now c.loop-row.row-index (0, 0, 0) c.loop-row-test.true (entered_at c.loop-row.counts (get_or c.args.rows.now c.loop-row.row-index (0, 0, 0)).1) c.requires.small (c.loop-row.invariant (get_or c.args.rows.now c.loop-row.row-index (0, 0, 0)).1)

pub loop-row-preserved : goal.loop-row-preserved
loop-row-preserved c =
    λ a. entered_more c.args.rows.now c.loop-row.row-index (0, 0, 0) c.loop-row-test.true a (entered_at c.loop-row.counts a) (entered_at c.add.new.counts a) (c.loop-row.invariant a) (c.in_ok-add.ensures a)

pub returns : goal.returns
returns c =
    λ a.
    let rest = ap (λ (l : List (ℕ × ℕ × ℕ)). entered (map counted l) a) (drop_all c.loop-row.row-index c.args.rows.now (omega (arith, c.loop-row-test.false))) in
    let none = entered_none a in
    let all = c.loop-row.invariant a in
    omega (arith, rest, none, all)
