-- The section headers of a program's file, and what is looked up among them.
use Rattle.std.proofs.Common.{◌≡◌, ℕ, ◌+◌, ◌≤◌, Bool, true, false, List, [], ◌∷◌, ◌++◌, length, map, Some, refl, ap, arith}
use Rattle.std.specs.Prelude.{nat_lt, if◌then◌else◌, ◌==◌, ◌&&◌, ◌||◌}
use Rattle.std.specs.List.{filter, find, position, list_any, sum_by, slice_get, position_or_len}
use Rattle.elf_read.specs.declared.tables.SectionHeader.{SectionHeader}
use Rattle.elf_read.specs.Faults.{is_text, is_symbols}
use Rattle.rv_asm.specs.declared.program.Program.{Program}
use Rattle.elf_make.specs.declared.rows.SectionRow.{SectionRow}
use Rattle.elf_make.specs.File.{text_size, has_data, data_address, data_offset, symbol_table, names, text_relocations, data_relocations, section_names, symbols_at, names_at, text_relocations_at, data_relocations_at, section_names_at, loaded_section, tables, sections}

-- the numbers that the section headers hold
pub record Spots : Type 0 where
  pub text_size : ℕ
  pub data_address : ℕ
  pub data_offset : ℕ
  pub data_size : ℕ
  pub symbols : ℕ
  pub symbols_size : ℕ
  pub strings : ℕ
  pub strings_size : ℕ
  pub text_relocs : ℕ
  pub text_relocs_size : ℕ
  pub data_relocs : ℕ
  pub data_relocs_size : ℕ
  pub titles : ℕ
  pub titles_size : ℕ

abbrev pub made : ℕ → ℕ → ℕ → ℕ → ℕ → ℕ → SectionHeader
made kind flags address offset size link = record { kind = kind; flags = flags; address = address; offset = offset; size = size; link = link }

abbrev pub text_row : Spots → SectionHeader
text_row s = made 1 6 0x10000 0x1000 s.text_size 0

abbrev pub data_row : Spots → SectionHeader
data_row s = made 1 3 s.data_address s.data_offset s.data_size 0

abbrev pub symbols_row : Bool → Spots → SectionHeader
symbols_row b s = made 2 0 0 s.symbols s.symbols_size ((if b then 3 else 2) + 1)

abbrev pub strings_row : Spots → SectionHeader
strings_row s = made 3 0 0 s.strings s.strings_size 0

abbrev pub text_relocs_row : Bool → Spots → SectionHeader
text_relocs_row b s = made 4 0 0 s.text_relocs s.text_relocs_size (if b then 3 else 2)

abbrev pub data_relocs_row : Bool → Spots → SectionHeader
data_relocs_row b s = made 4 0 0 s.data_relocs s.data_relocs_size (if b then 3 else 2)

abbrev pub table_rows : Bool → Spots → List SectionHeader
table_rows b s = symbols_row b s ∷ strings_row s ∷ text_relocs_row b s ∷ data_relocs_row b s ∷ made 3 0 0 s.titles s.titles_size 0 ∷ []

abbrev pub rows_of : Bool → Spots → List SectionHeader
rows_of b s = made 0 0 0 0 0 0 ∷ text_row s ∷ ((if b then data_row s ∷ [] else []) ++ table_rows b s)

abbrev pub spots : Program → Spots
spots p = record {
  text_size = text_size p;
  data_address = data_address p;
  data_offset = data_offset p;
  data_size = length p.bytes;
  symbols = symbols_at p;
  symbols_size = length (symbol_table p);
  strings = names_at p;
  strings_size = length (names p);
  text_relocs = text_relocations_at p;
  text_relocs_size = length (text_relocations p);
  data_relocs = data_relocations_at p;
  data_relocs_size = length (data_relocations p);
  titles = section_names_at p;
  titles_size = length (section_names p);
}

abbrev pub header_part : SectionRow → SectionHeader
header_part r = r.header

map_maybe : {X Y : Type 0} (f : X → Y) (b : Bool) (x : X) (ys : List X) → map f ((if b then x ∷ [] else []) ++ ys) ≡ (if b then f x ∷ [] else []) ++ map f ys
map_maybe f true x ys = refl
map_maybe f false x ys = refl

pub rows_are : (p : Program) → map header_part (sections p) ≡ rows_of (has_data p) (spots p)
unfolding sections
rows_are p = ap (λ (rest : List SectionHeader). made 0 0 0 0 0 0 ∷ text_row (spots p) ∷ rest) (map_maybe header_part (has_data p) (loaded_section 7 3 (data_address p) (data_offset p) (length p.bytes) 8) (tables p))

-- ---- what is looked up

pub found_symbols : (b : Bool) (s : Spots) → find is_symbols (rows_of b s) ≡ Some (symbols_row b s)
found_symbols true s = refl
found_symbols false s = refl

pub symbols_place : (b : Bool) (s : Spots) → position is_symbols (rows_of b s) ≡ Some (if b then 3 else 2)
symbols_place true s = refl
symbols_place false s = refl

pub symbols_number_is : (b : Bool) (s : Spots) → position_or_len is_symbols (rows_of b s) ≡ (if b then 3 else 2)
symbols_number_is true s = refl
symbols_number_is false s = refl

pub found_strings : (b : Bool) (s : Spots) → slice_get (rows_of b s) ((if b then 3 else 2) + 1) ≡ Some (strings_row s)
found_strings true s = refl
found_strings false s = refl

pub found_relocs : (b : Bool) (s : Spots) → filter (λ r. r.kind == 4 && r.link == (if b then 3 else 2)) (rows_of b s) ≡ text_relocs_row b s ∷ data_relocs_row b s ∷ []
found_relocs true s = refl
found_relocs false s = refl

pub found_text : (b : Bool) (s : Spots) → filter is_text (rows_of b s) ≡ (if nat_lt 0 s.text_size then text_row s ∷ [] else [])
found_text true s = refl
found_text false s = refl

or_false : (b : Bool) → (b || false) ≡ b
or_false true = refl
or_false false = refl

pub has_text : (b : Bool) (s : Spots) → list_any is_text (rows_of b s) ≡ nat_lt 0 s.text_size
has_text true s = or_false (nat_lt 0 s.text_size)
has_text false s = or_false (nat_lt 0 s.text_size)

pub text_sum : (t : Bool) (s : Spots) → sum_by (λ (x : SectionHeader). x.size) (if t then text_row s ∷ [] else []) ≤ s.text_size
text_sum true s = omega arith
text_sum false s = omega arith
