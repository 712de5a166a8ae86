use Rattle.std.proofs.Common.{◌≡◌, true}
use Rattle.std.specs.Ordering.{nat_cmp}
use Rattle.std.specs.List.{list_all, range_with_len}
use Rattle.std.specs.BTreeSet.{contains}
use Rattle.plans.proofs.order.has_each.Given as goal

abbrev pub invariant-loop-j : goal.invariant-loop-j
invariant-loop-j l = list_all (contains nat_cmp l.set) (range_with_len 0 l.j-counter) ≡ true
