use Rattle.std.proofs.Common.{◌≡◌, ℕ, false, take}
use Rattle.std.specs.Ordering.{nat_cmp}
use Rattle.std.specs.BTreeSet.{contains}
use Rattle.plans.specs.Orders.{is_among, repeats}
use Rattle.plans.proofs.order.numbers_of.Given as goal

abbrev pub invariant-loop-n : goal.invariant-loop-n
invariant-loop-n l = record {
  once : repeats (take l.n-index l.numbers) ≡ false;
  set : (q : ℕ) → contains nat_cmp l.set q ≡ is_among (take l.n-index l.numbers) q;
}
