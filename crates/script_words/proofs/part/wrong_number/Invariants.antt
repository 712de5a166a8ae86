use Rattle.std.proofs.Common.{◌≡◌, ℕ, [], take, drop}
use Rattle.std.specs.Ordering.{nat_cmp}
use Rattle.std.specs.BTreeSet.{contains}
use Rattle.plans.specs.Orders.{is_among}
use Rattle.script_words.specs.Parts.{first_told, number_fault}
use Rattle.script_words.proofs.part.wrong_number.Given as goal

abbrev pub invariant-loop-n : goal.invariant-loop-n
invariant-loop-n l = record {
  told : first_told (number_fault l.blocks) (take l.n-index l.order) (drop l.n-index l.order) ≡ first_told (number_fault l.blocks) [] l.order;
  set : (q : ℕ) → contains nat_cmp l.set q ≡ is_among (take l.n-index l.order) q;
}
