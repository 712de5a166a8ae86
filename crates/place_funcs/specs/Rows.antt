-- The pairs of a profile one by one, as the calls of the functions from which they go.
use Rattle.std.specs.Prelude.{ℕ, ◌+◌, ◌<◌, ◌≤◌, ◌^◌, All, AllPairs, length, Bool, false, not, ◌==◌, ◌&&◌, List, slice_get, Option, Some, None, if◌then◌else◌}
use Rattle.std.specs.List.{list_any, filter, sum_by}
use Rattle.image.specs.declared.ranges.Func.{Func}
use Rattle.branch_ring.specs.declared.counted.Counted.{Counted}
use Rattle.branch_ring.specs.Profiles.{IsKept}
use Rattle.place_funcs.specs.Edges.{is_in, is_start}

abbrev pub start_of : Counted → ℕ
start_of c = c.from

-- y is one of some functions
abbrev pub is_of : List ℕ → ℕ → Bool
is_of fs y = list_any (λ z. z == y) fs

abbrev pub is_it : Option ℕ → ℕ → Bool
is_it None y = false
is_it (Some x) y = y == x

-- the pairs that go from a function
abbrev pub leaving : List Func → List Counted → ℕ → List Counted
leaving funcs profile f = filter (λ c. is_in c.from (slice_get funcs f)) profile

module _ (funcs : List Func) (chosen : List ℕ) where
  -- y is one of the functions other than f, and starts at an address
  abbrev pub is_callee : ℕ → ℕ → ℕ → Bool
  is_callee f at y = is_start at (slice_get funcs y) && (is_of chosen y && not (y == f))

  -- what a pair that goes from f adds to the edge of x and y
  abbrev pub share : ℕ → ℕ → ℕ → Counted → ℕ
  share f x y c = (if (x == f) && is_callee f c.to y then c.count else 0) + (if is_callee f c.to x && (y == f) then c.count else 0)

  -- what all pairs that go from f add to it
  abbrev pub share_of : List Counted → ℕ → ℕ → ℕ → ℕ
  share_of profile x y f = sum_by (share f x y) (leaving funcs profile f)

-- what the functions of an image, a profile and the chosen functions keep
pub record IsGiven (funcs : List Func) (profile : List Counted) (chosen : List ℕ) : Type 0 where
  pub rise : AllPairs (λ f g. f.from < g.from) funcs
  pub ordered : All (λ f. f.from ≤ f.to) funcs
  pub few : length funcs < 2 ^ 32
  pub kept : IsKept profile
  pub ascend : AllPairs (λ f g. f < g) chosen
  pub below : All (λ f. f < length funcs) chosen
