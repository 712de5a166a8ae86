-- The layout of a plan at a base, or why there is none.
use Rattle.std.specs.Prelude.{◌≡◌, ℕ, ◌+◌, ◌*◌, ◌≤◌, List, length, map, Option, Some, None}
use Rattle.std.specs.Option.{option_map}
use Rattle.finite.specs.First.{first_of}
use Rattle.image.specs.Picture.{Picture}
use Rattle.blocks.specs.declared.fault.Unreadable.{Unreadable}
use Rattle.blocks.specs.Faults.{fault_of}
use Rattle.plans.specs.declared.plan.Moved.{Moved}
use Rattle.layout.specs.Laid.{Laid}
use Rattle.layout.specs.Points.{site_of, second_of}
use Rattle.emit.specs.declared.entry.Entry.{Entry}
use Rattle.emit.specs.declared.fault.EmitFault.{EmitFault}
use Rattle.emit.specs.declared.fault.EmitFault.TheVariants as fault
use Rattle.emit.specs.Entries.{entries_of}
use Rattle.emit.specs.Placed.{ArePlaced, IsFirstOut, point_of, calls_in}

-- the layout is made of these words at the base
pub record IsMadeOf (p : Picture) (es : List Entry) (base : ℕ) (l : Laid) : Type 0 where
  pub base_is : l.base ≡ base
  pub points : l.points ≡ map point_of es
  pub words : ArePlaced base es l.words
  pub sites : l.sites ≡ calls_in (site_of p) base es
  pub pairs : l.pairs ≡ calls_in (second_of p) base es

-- the layout is that of the plan at the base
abbrev pub IsEmitted : Picture → List Moved → ℕ → Laid → Type 0
IsEmitted p parts base l = IsMadeOf p (entries_of p parts) base l

-- the first function of a plan that can't be cut into blocks, with its first fault
abbrev pub unreadable_as : ℕ → Unreadable → EmitFault
unreadable_as g why = fault.Unreadable g why

abbrev pub part_fault : Picture → Moved → Option EmitFault
part_fault p m = option_map (unreadable_as m.func) (fault_of p m.func)

-- why a function has no words; out of memory has no cause
abbrev pub IsFault : Picture → ℕ → EmitFault → Type 0
IsFault p g (fault.Unreadable h why) = (h ≡ g) × (fault_of p g ≡ Some why)
IsFault p g (fault.BranchReach at target) = ⊥
IsFault p g fault.NoMemory = Unit {0}

unfoldable pub plan_unreadable : Picture → List Moved → Option EmitFault
plan_unreadable p parts = first_of (map (part_fault p) parts)

-- why there is no layout of the plan at the base; out of memory has no cause
abbrev pub Explains : Picture → List Moved → ℕ → EmitFault → Type 0
Explains p parts base (fault.Unreadable g why) = plan_unreadable p parts ≡ Some (fault.Unreadable g why)
Explains p parts base (fault.BranchReach at target) = (plan_unreadable p parts ≡ None) × IsFirstOut base (entries_of p parts) at target
Explains p parts base fault.NoMemory = Unit {0}

-- why a plan has no size; out of memory has no cause
abbrev pub ExplainsSize : Picture → List Moved → EmitFault → Type 0
ExplainsSize p parts (fault.Unreadable g why) = plan_unreadable p parts ≡ Some (fault.Unreadable g why)
ExplainsSize p parts (fault.BranchReach at target) = ⊥
ExplainsSize p parts fault.NoMemory = Unit {0}

-- the layout ends in the guest's space
abbrev pub Fits : Picture → List Moved → ℕ → Type 0
Fits p parts base = plan_unreadable p parts ≡ None → base + 4 * length (entries_of p parts) ≤ 0x08000000
