-- Steps of the loops over the file's tables.
use Rattle.std.proofs.Common.{◌≡◌, ℕ, ◌+◌, ◌*◌, ◌<◌, Bool, true, false, List, [], ◌∷◌, ◌++◌, length, get_or, Some, None, refl, arith}
use Rattle.std.specs.List.{All, filter, find, position}
use Rattle.std.specs.Prelude.{◌&&◌, ◌||◌, ◌==◌}
use Rattle.std.proofs.lemmas.List.Quantifiers.{position-Some}
use Rattle.std.proofs.lemmas.Bool.{and_parts}
use Rattle.std.proofs.lemmas.List.Elements.{All-filter, filter_passes}
use Rattle.std.proofs.lemmas.List.FromFn.{map-range_with_len_more}
use Rattle.finite.proofs.Finding.{find_none, none_by_map}
use Rattle.elf_read.specs.declared.tables.ProgramHeader.{ProgramHeader}
use Rattle.elf_read.specs.declared.tables.SectionHeader.{SectionHeader}
use Rattle.elf_read.specs.Tables.{table}
use Rattle.elf_read.specs.Faults.{is_loaded, is_symbols, is_table, is_outside, segment_start, section_start, is_segment_outside, is_section_outside, first_outside_segment, first_outside_section}

-- one more entry of a table
pub table_more : {X : Type 0} (size : ℕ) (entry : List ℕ → ℕ → X) (bytes : List ℕ) (from i : ℕ) → table size entry bytes from (i + 1) ≡ table size entry bytes from i ++ entry bytes (from + size * i) ∷ []
unfolding table
table_more size entry bytes from i = map-range_with_len_more (λ k. entry bytes (from + size * k)) 0 i i (omega arith)

pub table_none : {X : Type 0} (size : ℕ) (entry : List ℕ → ℕ → X) (bytes : List ℕ) (from : ℕ) → table size entry bytes from 0 ≡ []
unfolding table
table_none size entry bytes from = refl

second_fails : (a b : Bool) → (a && b) ≡ false → a ≡ true → b ≡ false
second_fails true b e h = e
second_fails false b e h = absurd cc

pub segment_inside : (len : ℕ) (hs : List ProgramHeader) (i : ℕ) (d : ProgramHeader) → first_outside_segment len hs ≡ None → i < length hs → is_loaded (get_or hs i d) ≡ true → is_outside len (get_or hs i d).offset (get_or hs i d).file_size ≡ false
unfolding first_outside_segment
segment_inside len hs i d none lt loaded =
    let nowhere = none_by_map segment_start (find (is_segment_outside len) hs) none in
    second_fails (is_loaded (get_or hs i d)) _ (find_none (is_segment_outside len) hs i d nowhere lt) loaded

pub section_inside : (len : ℕ) (ss : List SectionHeader) (i : ℕ) (d : SectionHeader) → first_outside_section len ss ≡ None → i < length ss → is_table (get_or ss i d) ≡ true → is_outside len (get_or ss i d).offset (get_or ss i d).size ≡ false
unfolding first_outside_section
section_inside len ss i d none lt is =
    let nowhere = none_by_map section_start (find (is_section_outside len) ss) none in
    second_fails (is_table (get_or ss i d)) _ (find_none (is_section_outside len) ss i d nowhere lt) is

first_of_three : (a b : Bool) → a ≡ true → (a || b) ≡ true
first_of_three true b e = refl
first_of_three false b e = absurd cc

pub symbols_inside : (len : ℕ) (ss : List SectionHeader) (i : ℕ) (d : SectionHeader) → first_outside_section len ss ≡ None → position is_symbols ss ≡ Some i → is_outside len (get_or ss i d).offset (get_or ss i d).size ≡ false
symbols_inside len ss i d none first =
    let at = position-Some is_symbols ss i d first in
    section_inside len ss i d none at.0 (first_of_three (is_symbols (get_or ss i d)) _ at.1)

last_of_three : (a b c : Bool) → c ≡ true → (a || (b || c)) ≡ true
last_of_three true b c e = refl
last_of_three false true c e = refl
last_of_three false false c e = e

-- the sections of relocations are inside
pub tables_inside : (len : ℕ) (ss : List SectionHeader) (place : ℕ) → first_outside_section len ss ≡ None → All (λ (s : SectionHeader). is_outside len s.offset s.size ≡ false) (filter (λ s. s.kind == 4 && s.link == place) ss)
tables_inside len ss place none i d lt =
    let q : SectionHeader → Bool = λ s. s.kind == 4 && s.link == place in
    let here : SectionHeader → Type 0 = λ s. is_table s ≡ true → is_outside len s.offset s.size ≡ false in
    let each : All here ss = λ k e within. section_inside len ss k e none within in
    let s = get_or (filter q ss) i d in
    All-filter q here ss each i d lt (last_of_three (s.kind == 2) (s.kind == 3) (s.kind == 4) (and_parts (s.kind == 4) (s.link == place) (filter_passes q ss i d lt)).0)
