-- Profiles: how often each pair stands among those of all rings.
use Rattle.std.specs.Prelude.{◌≡◌, ℕ, ◌^◌, ◌<◌, ◌⊎◌, Bool, ◌==◌, ◌&&◌, List, count_by, sum_by, length, All, AllPairs, Contains, ◌↔◌}
use Rattle.std.specs.List.{flat_map}
use Rattle.branch_ring.specs.declared.counted.Counted.{Counted}
use Rattle.branch_ring.specs.Rings.{Notes}

-- by `from`, and of one `from` by `to`
abbrev pub Precedes : Counted → Counted → Type 0
Precedes c d = (c.from < d.from) ⊎ ((c.from ≡ d.from) × (c.to < d.to))

abbrev pub is_pair : ℕ → ℕ → ℕ × ℕ → Bool
is_pair from to pair = (pair.0 == from) && (pair.1 == to)

-- how often a pair stands among others
abbrev pub times : List (ℕ × ℕ) → ℕ → ℕ → ℕ
times pairs from to = count_by (is_pair from to) pairs

-- the pairs of all rings
abbrev pub all_pairs : List Notes → List (ℕ × ℕ)
all_pairs rings = flat_map (λ r. r.pairs) rings

-- how many pairs all rings keep
abbrev pub pair_count : List Notes → ℕ
pair_count rings = sum_by (λ r. length r.pairs) rings

-- the profile of some pairs: each that stands there, once, with how often, ascending
pub record IsProfile (pairs : List (ℕ × ℕ)) (profile : List Counted) : Type 0 where
  pub ascends : AllPairs Precedes profile
  pub has : (c : Counted) → Contains profile c ↔ ((0 < c.count) × (c.count ≡ times pairs c.from c.to))

abbrev pub count_of : Counted → ℕ
count_of c = c.count

-- what each profile keeps
pub record IsKept (profile : List Counted) : Type 0 where
  pub ascends : AllPairs Precedes profile
  pub some : All (λ c. 0 < c.count) profile
  pub small : sum_by count_of profile < 2 ^ 62

-- a row of a profile's list
abbrev pub counted : ℕ × ℕ × ℕ → Counted
counted row = record { from = row.0; to = row.1; count = row.2 }
