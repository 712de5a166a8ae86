-- Functions from numbers to numbers that are zero almost everywhere, and finite sets of numbers, as values in canonical form:
-- two of them are equal where all reads are. The laws of reading stand in proofs/Mapped.antt.
--     Table, at, zeros         such a function; what it is at a place; the one that is zero everywhere
--     Places, contains, nowhere    a set; whether a number is in it; the empty one
--     fill m lo n f          m, but f at the n places from lo
--     mark s lo n p          the set s, but of the n places from lo just those that pass p
--     contains_all s lo n       each of the n places from lo is in s
--     items s                the numbers in s, ascending
use Rattle.std.specs.Prelude.{ℕ, zero, suc, ◌+◌, Bool, true, false, ◌&&◌, nat_le, nat_lt, Option, Some, None, is_some, List}
use Rattle.std.specs.Ordering.{nat_cmp}
use Rattle.std.specs.Coded.{Coded, coded_ℕ}
use Rattle.std.specs.FinMap as map
use base.Stored.{coded_unit}

-- a place that is n + 1 is kept as n, and a place that is zero isn't kept
abbrev pub Table : Type 0
Table = map.FinMap nat_cmp ℕ

abbrev pub Places : Type 0
Places = map.FinMap nat_cmp (Unit {0})

abbrev pub table_code : Coded Table
table_code = map.code coded_ℕ coded_ℕ

abbrev pub places_code : Coded Places
places_code = map.code coded_ℕ coded_unit

unfoldable pub kept : Option ℕ → ℕ
kept None = 0
kept (Some n) = suc n

unfoldable pub at : Table → ℕ → ℕ
at m q = kept (map.get m q)

unfoldable pub contains : Places → ℕ → Bool
contains s q = is_some (map.get s q)

unfoldable pub zeros : Table
zeros = map.empty

unfoldable pub nowhere : Places
nowhere = map.empty

-- q is one of the n places from lo
abbrev pub within : ℕ → ℕ → ℕ → Bool
within lo n q = nat_le lo q && nat_lt q (lo + n)

unfoldable pub fill_one : Table → ℕ → ℕ → Table
fill_one m k zero = map.remove m k
fill_one m k (suc b) = map.insert m k b

unfoldable pub fill : Table → ℕ → ℕ → (ℕ → ℕ) → Table
fill m lo zero f = m
fill m lo (suc n) f = fill_one (fill m lo n f) (lo + n) (f (lo + n))

unfoldable pub mark_one : Places → ℕ → Bool → Places
mark_one s k true = map.insert s k tt
mark_one s k false = map.remove s k

unfoldable pub mark : Places → ℕ → ℕ → (ℕ → Bool) → Places
mark s lo zero p = s
mark s lo (suc n) p = mark_one (mark s lo n p) (lo + n) (p (lo + n))

unfoldable pub contains_all : Places → ℕ → ℕ → Bool
contains_all s lo zero = true
contains_all s lo (suc n) = contains_all s lo n && contains s (lo + n)

unfoldable pub items : Places → List ℕ
items s = map.keys s
