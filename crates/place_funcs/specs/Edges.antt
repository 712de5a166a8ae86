-- How often a profile goes between functions, and from them. Functions are given by their numbers.
use Rattle.std.specs.Prelude.{ℕ, ◌+◌, Bool, false, ◌==◌, ◌&&◌, List, slice_get, Option, Some, None, if◌then◌else◌}
use Rattle.std.specs.List.{list_any, sum_by}
use Rattle.image.specs.declared.ranges.Func.{Func}
use Rattle.image.specs.Aims.{is_inside}
use Rattle.branch_ring.specs.declared.counted.Counted.{Counted}

abbrev pub is_in : ℕ → Option Func → Bool
is_in at None = false
is_in at (Some f) = is_inside at f

abbrev pub is_start : ℕ → Option Func → Bool
is_start at None = false
is_start at (Some f) = f.from == at

-- whether one of these functions holds an address
abbrev pub is_held : List Func → List ℕ → ℕ → Bool
is_held funcs fs at = list_any (λ f. is_in at (slice_get funcs f)) fs

module _ (funcs : List Func) (profile : List Counted) where
  -- the count of this pair, if it goes from f to g's start
  abbrev pub count_to : ℕ → ℕ → Counted → ℕ
  count_to f g c = if is_in c.from (slice_get funcs f) && is_start c.to (slice_get funcs g) then c.count else 0

  -- how often the profile goes from f to g's start
  abbrev pub calls : ℕ → ℕ → ℕ
  calls f g = sum_by (count_to f g) profile

  -- the weight of the edge between f and g: how often the profile goes from either to the start of the other
  unfoldable pub edge : ℕ → ℕ → ℕ
  edge f g = calls f g + calls g f

  -- the count of this pair, if it goes from one of these functions
  abbrev pub count_from : List ℕ → Counted → ℕ
  count_from fs c = if is_held funcs fs c.from then c.count else 0

  -- how often the profile goes from some functions: each pair counts once
  unfoldable pub count : List ℕ → ℕ
  count fs = sum_by (count_from fs) profile
