-- Lists in a strict order.
use Rattle.std.specs.Prelude.{◌≡◌, ◌⊎◌, List, [], ◌∷◌}
use Rattle.std.specs.List.{AllByRecursion}

-- each stands before all that come after it
abbrev pub Rises : {X : Type 0} → (X → X → Type 0) → List X → Type 0
Rises before [] = Unit {0}
Rises before (x ∷ xs) = AllByRecursion (before x) xs × Rises before xs

-- x is one of these
abbrev pub IsAmong : {X : Type 0} → List X → X → Type 0
IsAmong [] x = ⊥
IsAmong (y ∷ ys) x = (y ≡ x) ⊎ IsAmong ys x
