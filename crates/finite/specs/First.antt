-- The first of some faults in a written order.
use Rattle.std.specs.Prelude.{Bool, List, [], ◌∷◌, Option, Some, None, if◌then◌else◌}

-- the first that is there
abbrev pub first_of : {X : Type 0} → List (Option X) → Option X
first_of [] = None
first_of (None ∷ rest) = first_of rest
first_of (Some f ∷ rest) = Some f

abbrev pub when : {X : Type 0} → Bool → X → Option X
when b f = if b then Some f else None
