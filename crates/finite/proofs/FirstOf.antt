-- The first of faults that stand in two lists.
use Rattle.std.proofs.Common.{◌≡◌, List, [], ◌∷◌, ◌++◌, Option, Some, None, refl}
use Rattle.finite.specs.First.{first_of}

-- where the first list has none, the second tells
pub first_passes : {X : Type 0} (xs ys : List (Option X)) → first_of xs ≡ None → first_of (xs ++ ys) ≡ first_of ys
first_passes [] ys e = refl
first_passes (None ∷ xs) ys e = first_passes xs ys e
first_passes (Some x ∷ xs) ys e = absurd cc

-- what the first list has comes first
pub first_stops : {X : Type 0} (xs ys : List (Option X)) (x : X) → first_of xs ≡ Some x → first_of (xs ++ ys) ≡ Some x
first_stops [] ys x e = absurd cc
first_stops (None ∷ xs) ys x e = first_stops xs ys x e
first_stops (Some y ∷ xs) ys x e = e
