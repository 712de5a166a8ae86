-- The least number with a property.
use Rattle.std.specs.Prelude.{ℕ, ◌≤◌, Option, Some, None}

-- o is the least number of which P holds: none where it holds of none
abbrev pub IsLeastOf : (ℕ → Type 0) → Option ℕ → Type 0
IsLeastOf P None = (b : ℕ) → P b → ⊥
IsLeastOf P (Some a) = P a × ((b : ℕ) → P b → a ≤ b)
