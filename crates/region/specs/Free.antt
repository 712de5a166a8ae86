-- Free ranges, and what becomes of them where a part is taken or given back. This project's own.
use Rattle.std.specs.Prelude.{◌≡◌, ℕ, ◌+◌, ◌-◌, ◌<◌, ◌≤◌, ◌==◌, ◌&&◌, nat_le, nat_lt, max, Bool, true, List, [], ◌∷◌, ◌++◌, find, Option, if◌then◌else◌}
use Rattle.std.specs.List.{list_any, flat_map}
use Rattle.std.specs.Option.{option_map}
use Rattle.oc_base.specs.declared.range.Range.{Range}

abbrev pub range : ℕ → ℕ → Range
range from to = record { from = from; to = to }

abbrev pub size : Range → ℕ
size r = r.to - r.from

abbrev pub is_in : ℕ → Range → Bool
is_in a r = nat_le r.from a && nat_lt a r.to

-- the byte at an address is free
abbrev pub is_free : List Range → ℕ → Bool
is_free rs a = list_any (is_in a) rs

-- n bytes from an address on are free
abbrev pub AreFree : List Range → ℕ → ℕ → Type 0
AreFree rs at n = (a : ℕ) → at ≤ a → a < at + n → is_free rs a ≡ true

-- from low to high: ascending, none empty, and no two that touch
abbrev pub Rises : ℕ → ℕ → List Range → Type 0
Rises low high [] = Unit {0}
Rises low high (r ∷ rs) = (low ≤ r.from) × (r.from < r.to) × (r.to ≤ high) × Rises (r.to + 1) high rs

abbrev pub holds : ℕ → Range → Bool
holds n r = nat_le n (size r)

abbrev pub range_from : Range → ℕ
range_from r = r.from

-- where the first range of n bytes or more begins
unfoldable pub fit : List Range → ℕ → Option ℕ
fit rs n = option_map range_from (find (holds n) rs)

-- the size of the largest
abbrev pub largest : List Range → ℕ
largest [] = 0
largest (r ∷ rs) = max (size r) (largest rs)

-- the range, if it has a byte
abbrev pub piece : ℕ → ℕ → List Range
piece from to = if nat_lt from to then range from to ∷ [] else []

-- what is left of a range without the part from `from` to `to`, if it holds this part
abbrev pub without : ℕ → ℕ → Range → List Range
without from to r = if nat_le r.from from && nat_le to r.to then piece r.from from ++ piece to r.to else r ∷ []

-- the free ranges without a part, if that has a byte
unfoldable pub taken : ℕ → ℕ → List Range → List Range
taken from to rs = if nat_lt from to then flat_map (without from to) rs else rs

-- a range before others, one with the first of these where they touch
abbrev pub put_before : Range → List Range → List Range
put_before r [] = r ∷ []
put_before r (s ∷ rs) = if r.to == s.from then range r.from s.to ∷ rs else r ∷ s ∷ rs

-- a range before others, one with the first two of these where they touch it
abbrev pub put_here : Range → List Range → List Range
put_here r [] = r ∷ []
put_here r (s ∷ rs) = if s.to == r.from then put_before (range s.from r.to) rs else put_before r (s ∷ rs)

-- a range at its place among others: behind those that end before it
abbrev pub put_in : Range → List Range → List Range
put_in r [] = r ∷ []
put_in r (s ∷ rs) = if nat_le r.from s.to then put_here r (s ∷ rs) else s ∷ put_in r rs

-- the free ranges with a part more, if that has a byte
unfoldable pub given : Range → List Range → List Range
given r rs = if nat_lt r.from r.to then put_in r rs else rs
