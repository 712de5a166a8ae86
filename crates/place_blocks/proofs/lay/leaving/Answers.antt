use Rattle.std.proofs.Common.{◌+◌, ◌<◌, ◌∙◌, cond, ℕ, Bool, List, map, get_or, sym, subst, ap, arith}
use Rattle.std.specs.Prelude.{IfSome}
use Rattle.std.proofs.lemmas.List.{at_drop_all}
use Rattle.branch_ring.specs.Profiles.{counted}
use Rattle.place_blocks.specs.Edges.{leaves, count_of}
use Rattle.place_blocks.proofs.Weighing.{count_fits, count_step}
use Rattle.place_blocks.proofs.lay.leaving.Goals as goal

pub add_at-requires-clause-within : goal.add_at-requires-clause-within
add_at-requires-clause-within c = subst (λ (n : ℕ). IfSome c.holder.result (λ k. k < n)) (sym c.loop-from.invariant.size) c.holder.ensures.within

pub add_at-requires-clause-fits : goal.add_at-requires-clause-fits
add_at-requires-clause-fits c = λ k. count_fits c.args.blocks.now c.args.rows.now c.loop-from.from-index (0, 0, 0) c.loop-from-test.true (leaves c.args.blocks.now k) _ c.requires.kept.small (c.loop-from.invariant.counts k)

pub loop-from-preserved : goal.loop-from-preserved
loop-from-preserved c = record {
  size = c.add_at.ensures.size ∙ c.loop-from.invariant.size;
  counts = λ k. count_step c.args.blocks.now c.args.rows.now c.loop-from.from-index (0, 0, 0) c.loop-from-test.true (leaves c.args.blocks.now k) _ _ (c.loop-from.invariant.counts k)
      (c.add_at.ensures.added k ∙ ap (λ (t : Bool). get_or c.loop-from.counts.items k 0 + cond t (get_or c.args.rows.now c.loop-from.from-index (0, 0, 0)).2 0) (sym (c.holder.ensures.is k)));
}

pub returns-clause-size : goal.returns-clause-size
returns-clause-size c = c.loop-from.invariant.size

pub returns-clause-counts : goal.returns-clause-counts
returns-clause-counts c =
    λ k.
    let rest = at_drop_all (λ (l : List (ℕ × ℕ × ℕ)). count_of (map counted l) (leaves c.args.blocks.now k)) c.args.rows.now c.loop-from.from-index (omega (arith, c.loop-from-test.false)) in
    let all = c.loop-from.invariant.counts k in
    omega (arith, rest, all)
