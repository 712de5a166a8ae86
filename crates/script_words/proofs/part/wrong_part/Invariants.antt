use Rattle.std.proofs.Common.{◌≡◌, ℕ, [], map, take, drop}
use Rattle.std.specs.Ordering.{nat_cmp}
use Rattle.std.specs.BTreeSet.{contains}
use Rattle.plans.specs.Orders.{is_among}
use Rattle.plans.specs.Plans.{moved_func}
use Rattle.script_words.specs.Parts.{first_told, part_fault}
use Rattle.script_words.proofs.part.wrong_part.Given as goal

abbrev pub invariant-loop-m : goal.invariant-loop-m
invariant-loop-m l = record {
  told : first_told (part_fault l.image) (take l.m-index l.parts) (drop l.m-index l.parts) ≡ first_told (part_fault l.image) [] l.parts;
  set : (q : ℕ) → contains nat_cmp l.set q ≡ is_among (map moved_func (take l.m-index l.parts)) q;
}
