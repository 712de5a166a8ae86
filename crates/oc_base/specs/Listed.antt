-- Calls of a device in memory, of which those with the listed numbers fail.
use Rattle.std.specs.Prelude.{ℕ, Bool, List, [], ◌∷◌, Option, Some, None, nat_eq}
use Rattle.std.specs.List.{list_any}
use Rattle.oc_base.specs.Outside.{next}
use Rattle.oc_base.specs.declared.calls.Calls.{Calls}

-- the calls after one more
abbrev pub called : Calls → Calls
called calls = record { fails = calls.fails; count = next calls.count }

-- whether the next call is to fail
abbrev pub fails_next : Calls → Bool
fails_next calls = list_any (λ number. nat_eq number (next calls.count)) calls.fails.items

-- the count of the faults, which a device has only where some call is to fail
abbrev pub counted : List ℕ → ℕ → Option ℕ
counted [] count = None
counted (number ∷ more) count = Some count
