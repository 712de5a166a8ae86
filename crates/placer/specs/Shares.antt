-- The pairs of a profile that tell of one function, and how they are gathered.
use Rattle.std.specs.Prelude.{◌≡◌, ℕ, Bool, true, ◌||◌, ◌↔◌, List, [], ◌∷◌, Contains, Option, Some, if◌then◌else◌}
use Rattle.std.specs.List.Sorted.{IsNonDecreasingBy}
use Rattle.image.specs.declared.ranges.Func.{Func}
use Rattle.image.specs.Aims.{is_inside}
use Rattle.branch_ring.specs.declared.counted.Counted.{Counted}
use Rattle.branch_ring.specs.Profiles.{is_pair, IsKept}
use Rattle.placer.specs.Chosen.{row_from}

-- a pair comes from a function, or goes to it
abbrev pub touches : Func → Counted → Bool
touches f c = is_inside c.from f || is_inside c.to f

-- some pairs of a profile, and among them all that touch a function
pub record IsShare (f : Func) (profile part : List Counted) : Type 0 where
  pub kept : IsKept part
  pub some : (c : Counted) → Contains part c → Contains profile c
  pub all : (c : Counted) → Contains profile c → touches f c ≡ true → Contains part c

-- a row with its ends exchanged
abbrev pub flip : ℕ × ℕ × ℕ → ℕ × ℕ × ℕ
flip row = (row.1, row.0, row.2)

-- the rows of a profile with their ends exchanged, ascending by where they go
pub record AreTargets (rows targets : List (ℕ × ℕ × ℕ)) : Type 0 where
  pub same : (row : ℕ × ℕ × ℕ) → Contains targets row ↔ Contains rows (flip row)
  pub rises : IsNonDecreasingBy row_from targets

-- the count of a pair after rows were put into a map
abbrev pub put_rows : List (ℕ × ℕ × ℕ) → ℕ → ℕ → Option ℕ → Option ℕ
put_rows [] from to o = o
put_rows (row ∷ rows) from to o = put_rows rows from to (if is_pair from to (row.0, row.1) then Some row.2 else o)
