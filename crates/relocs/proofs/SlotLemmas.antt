-- What is stored in the parts.
use Rattle.std.proofs.Common.{◌≡◌, ℕ, ◌+◌, ◌-◌, ◌^◌, ◌<◌, ◌≤◌, Bool, true, false, cond, leb, min, List, [], ◌∷◌, length, map, drop, Option, Some, None, refl, sym, ap, ◌∙◌, arith}
use Rattle.std.specs.Prelude.{◌&&◌, ◌||◌}
use Rattle.std.proofs.lemmas.Bool.Decides.{nat_tests}
use Rattle.std.specs.List.{AllPairs, filter, find}
use Rattle.std.specs.Option.{option_map, option_and_then}
use Rattle.std.proofs.lemmas.Bool.{le-leb, lt-leb}
use Rattle.std.proofs.lemmas.List.{drop_all}
use Rattle.finite.proofs.Searching.{find_wholly, reaching}
use Rattle.elf_read.specs.declared.elf.Symbol.{Symbol}
use Rattle.image.specs.declared.ranges.Part.{Part}
use Rattle.image.specs.Aims.{part_start, part_end, covers_part, stored_in, stored_at}
use Rattle.relocs.specs.Cover.{is_held}
use Rattle.relocs.specs.Functions.{symbol_end}
use Rattle.relocs.specs.Named.{is_table, is_tabled, table_range}

pub drop_past : (n : ℕ) (xs : List ℕ) → length xs ≤ n → drop n xs ≡ []
drop_past n xs le = drop_all n xs le

stored_by_part : (parts : List Part) (a : ℕ) (o : Option Part) → AllPairs (λ s t. s.range.to ≤ t.range.from) parts → o ≡ find (covers_part a) parts → stored_at parts a ≡ option_map (stored_in a) (option_and_then (reaching part_end (a + 8)) o)
unfolding stored_at
stored_by_part parts a o rise is = ap (option_map (stored_in a)) (find_wholly part_start part_end parts a (a + 8) rise (omega arith) ∙ ap (option_and_then (reaching part_end (a + 8))) (sym is))

pub stored_none : (parts : List Part) (a : ℕ) → AllPairs (λ s t. s.range.to ≤ t.range.from) parts → None ≡ find (covers_part a) parts → stored_at parts a ≡ None
stored_none parts a rise is = stored_by_part parts a None rise is

pub stored_short : (parts : List Part) (a : ℕ) (p : Part) → AllPairs (λ s t. s.range.to ≤ t.range.from) parts → Some p ≡ find (covers_part a) parts → p.range.to < a + 8 → stored_at parts a ≡ None
stored_short parts a p rise is short = stored_by_part parts a (Some p) rise is ∙ ap (λ (c : Bool). option_map (stored_in a) (cond c (Some p) None)) (lt-leb (a + 8) p.range.to short)

pub stored_there : (parts : List Part) (a : ℕ) (p : Part) → AllPairs (λ s t. s.range.to ≤ t.range.from) parts → Some p ≡ find (covers_part a) parts → a + 8 ≤ p.range.to → stored_at parts a ≡ Some (stored_in a p)
stored_there parts a p rise is there = stored_by_part parts a (Some p) rise is ∙ ap (λ (c : Bool). option_map (stored_in a) (cond c (Some p) None)) (le-leb (a + 8) p.range.to there)

capped : (t end : ℕ) → t < 2 ^ 64 → leb t end ≡ leb t (min end (2 ^ 64 - 1))
capped t end lt = grind (arith, nat_tests)

table_case : (b : Bool) (a : ℕ) (s : Symbol) (rest : Bool) (ranges : List (ℕ × ℕ)) → a + 8 < 2 ^ 64 → rest ≡ is_held ranges a (a + 8) → ((b && (leb s.value a && leb (a + 8) (symbol_end s))) || rest) ≡ is_held (cond b (table_range s ∷ ranges) ranges) a (a + 8)
table_case true a s rest ranges lt e = rw (e, capped (a + 8) (symbol_end s) lt) refl
table_case false a s rest ranges lt e = e

map_case : (b : Bool) (s : Symbol) (ss : List Symbol) → map table_range (cond b (s ∷ ss) ss) ≡ cond b (table_range s ∷ map table_range ss) (map table_range ss)
map_case true s ss = refl
map_case false s ss = refl

-- a virtual table holds 8 bytes where one of the ranges does
pub tabled_by_ranges : (ss : List Symbol) (a : ℕ) → a + 8 < 2 ^ 64 → is_tabled ss a ≡ is_held (map table_range (filter is_table ss)) a (a + 8)
unfolding is_tabled
tabled_by_ranges [] a lt = refl
tabled_by_ranges (s ∷ ss) a lt = rw (map_case (is_table s) s (filter is_table ss)) (table_case (is_table s) a s (is_tabled ss a) (map table_range (filter is_table ss)) lt (tabled_by_ranges ss a lt))
