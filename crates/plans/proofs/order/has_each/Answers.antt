use Rattle.std.proofs.Common.{◌≡◌, ◌+◌, sym, ◌∙◌, ap, arith}
use Rattle.std.specs.Ordering.{nat_cmp}
use Rattle.std.specs.BTreeSet.{contains}
use Rattle.std.proofs.lemmas.Bool.{and_from}
use Rattle.plans.proofs.Planned.{all_next, each_fails}
use Rattle.plans.proofs.order.has_each.Goals as goal

pub returns-then-not-contains : goal.returns-then-not-contains
returns-then-not-contains c =
    sym (each_fails (contains nat_cmp c.args.set.now) c.args.k c.loop-j.j-counter c.loop-j-test.true (sym c.contains.ensures ∙ c.if-not-contains.true))

pub loop-j-preserved : goal.loop-j-preserved
loop-j-preserved c =
    all_next (contains nat_cmp c.args.set.now) 0 c.loop-j.j-counter
    ∙ and_from _ _ c.loop-j.invariant (zero_plus ∙ sym c.contains.ensures ∙ c.if-not-contains.false)
  where
    zero_plus : contains nat_cmp c.args.set.now (0 + c.loop-j.j-counter) ≡ contains nat_cmp c.args.set.now c.loop-j.j-counter
    zero_plus = ap (contains nat_cmp c.args.set.now) (omega arith)
