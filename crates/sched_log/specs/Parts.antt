-- A text that is cut at the first place of a byte.
use Rattle.std.specs.Prelude.{ℕ, ◌==◌, nat_lt, List, [], length, Option, Some, None, if◌then◌else◌}
use Rattle.std.specs.List.{slice_split, position_or_len, after_first}

-- what stands behind that place, if there is one
abbrev pub behind : ℕ → List ℕ → Option (List ℕ)
behind mark bytes = if nat_lt (position_or_len (λ b. b == mark) bytes) (length bytes) then Some (after_first (λ b. b == mark) bytes) else None

-- the parts of what stands behind that place
abbrev pub parts_behind : ℕ → Option (List ℕ) → List (List ℕ)
parts_behind mark None = []
parts_behind mark (Some rest) = slice_split (λ b. b == mark) rest
