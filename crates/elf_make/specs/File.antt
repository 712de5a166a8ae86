-- The file of a program: its tables, their places, and the whole.
use Rattle.std.specs.Prelude.{ℕ, ◌+◌, ◌-◌, ◌*◌, Bool, true, false, not, ◌==◌, nat_lt, List, [], ◌∷◌, ◌++◌, length, map, codes, if◌then◌else◌}
use Rattle.std.specs.List.{filter, flat_map, sum_by}
use Rattle.elf_read.specs.declared.tables.ProgramHeader.{ProgramHeader}
use Rattle.elf_read.specs.declared.tables.SymbolEntry.{SymbolEntry}
use Rattle.rv_asm.specs.Emission.{round_up}
use Rattle.rv_asm.specs.Kept.{symbol_size}
use Rattle.rv_asm.specs.declared.program.Program.{Program}
use Rattle.rv_asm.specs.declared.symbol.Fixup.{Fixup}
use Rattle.rv_asm.specs.declared.symbol.Named.{Named}
use Rattle.elf_make.specs.declared.rows.FileHeader.{FileHeader}
use Rattle.elf_make.specs.declared.rows.SectionRow.{SectionRow}
use Rattle.elf_make.specs.Bytes.{number, string_table, laid}
use Rattle.elf_make.specs.Rows.{file_header, program_header, section_header, symbol_entry, relocation}

-- ---- text and data

unfoldable pub text_bytes : Program → List ℕ
text_bytes p = flat_map (number 4) p.text

abbrev pub text_size : Program → ℕ
text_size p = 4 * length p.text

abbrev pub has_data : Program → Bool
has_data p = nat_lt 0 (length p.bytes)

-- the address of data
abbrev pub data_address : Program → ℕ
data_address p = round_up 4096 (0x10000 + text_size p)

-- where data stand in the file
abbrev pub data_offset : Program → ℕ
data_offset p = if has_data p then round_up 4096 (0x1000 + text_size p) else 0x1000 + text_size p

-- text may be read and executed (5), data read and written (6)
abbrev pub segment : ℕ → ℕ → ℕ → ℕ → ProgramHeader
segment flags offset address size = record { kind = 1; flags = flags; offset = offset; address = address; file_size = size; memory_size = size }

unfoldable pub segments : Program → List ProgramHeader
segments p = segment 5 0x1000 0x10000 (text_size p) ∷ (if has_data p then segment 6 (data_offset p) (data_address p) (length p.bytes) ∷ [] else [])

-- ---- symbols: a null symbol, functions (2) of the section of text, objects (1) of the section of data

abbrev pub no_symbol : SymbolEntry
no_symbol = record { name = 0; info = 0; section = 0; value = 0; size = 0 }

-- the names stand one after another in the table of strings, from `name` on
abbrev pub symbols_of : ℕ → ℕ → ℕ → List Named → List SymbolEntry
symbols_of info section name [] = []
symbols_of info section name (n ∷ rest) = record { name = name; info = info; section = section; value = n.from; size = n.to - n.from } ∷ symbols_of info section (name + symbol_size n) rest

unfoldable pub symbol_entries : Program → List SymbolEntry
symbol_entries p = no_symbol ∷ (symbols_of 2 1 1 p.funcs ++ symbols_of 1 2 (1 + sum_by symbol_size p.funcs) p.objects)

unfoldable pub symbol_table : Program → List ℕ
symbol_table p = flat_map symbol_entry (symbol_entries p)

abbrev pub name_of : Named → List ℕ
name_of n = n.name

unfoldable pub names : Program → List ℕ
names p = string_table (map name_of p.funcs ++ map name_of p.objects)

-- ---- relocations: those of slots (2) are in data, and the others in text

abbrev pub is_of : Bool → Fixup → Bool
is_of true f = f.kind == 2
is_of false f = not (f.kind == 2)

abbrev pub in_text : List Fixup → List Fixup
in_text fixups = filter (is_of false) fixups

abbrev pub in_data : List Fixup → List Fixup
in_data fixups = filter (is_of true) fixups

unfoldable pub text_relocations : Program → List ℕ
text_relocations p = flat_map relocation (in_text p.fixups)

unfoldable pub data_relocations : Program → List ℕ
data_relocations p = flat_map relocation (in_data p.fixups)

-- ---- names of sections

unfoldable pub section_names : Program → List ℕ
section_names p = string_table (
    codes ".text" ∷ ((if has_data p then codes ".data" ∷ [] else [])
    ++ codes ".symtab" ∷ codes ".strtab" ∷ codes ".rela.text" ∷ codes ".rela.data" ∷ codes ".shstrtab" ∷ []))

-- where the name of the first section after text and data stands
abbrev pub later_names : Program → ℕ
later_names p = if has_data p then 13 else 7

-- ---- places: after text and data each table stands at a multiple of 8

unfoldable pub symbols_at : Program → ℕ
symbols_at p = round_up 8 (data_offset p + length p.bytes)

unfoldable pub names_at : Program → ℕ
names_at p = round_up 8 (symbols_at p + length (symbol_table p))

unfoldable pub text_relocations_at : Program → ℕ
text_relocations_at p = round_up 8 (names_at p + length (names p))

unfoldable pub data_relocations_at : Program → ℕ
data_relocations_at p = round_up 8 (text_relocations_at p + length (text_relocations p))

unfoldable pub section_names_at : Program → ℕ
section_names_at p = round_up 8 (data_relocations_at p + length (data_relocations p))

unfoldable pub sections_at : Program → ℕ
sections_at p = round_up 8 (section_names_at p + length (section_names p))

-- ---- sections

-- a null section, text and data
abbrev pub no_section : SectionRow
no_section = record {
  name = 0;
  header = record { kind = 0; flags = 0; address = 0; offset = 0; size = 0; link = 0 };
  info = 0;
  align = 0;
  entry_size = 0;
}

abbrev pub loaded_section : ℕ → ℕ → ℕ → ℕ → ℕ → ℕ → SectionRow
loaded_section name flags address offset size align = record {
  name = name;
  header = record { kind = 1; flags = flags; address = address; offset = offset; size = size; link = 0 };
  info = 0;
  align = align;
  entry_size = 0;
}

-- a section of strings
abbrev pub strings_section : ℕ → ℕ → ℕ → SectionRow
strings_section name offset size = record {
  name = name;
  header = record { kind = 3; flags = 0; address = 0; offset = offset; size = size; link = 0 };
  info = 0;
  align = 1;
  entry_size = 0;
}

-- a section with entries of 24 bytes: symbols (2) or relocations (4)
abbrev pub table_section : ℕ → ℕ → ℕ → ℕ → ℕ → ℕ → SectionRow
table_section name kind offset size link info = record {
  name = name;
  header = record { kind = kind; flags = 0; address = 0; offset = offset; size = size; link = link };
  info = info;
  align = 8;
  entry_size = 24;
}

-- the number of the section of symbols
abbrev pub symbols_number : Program → ℕ
symbols_number p = if has_data p then 3 else 2

abbrev pub text_and_data : Program → List SectionRow
text_and_data p =
    loaded_section 1 6 0x10000 0x1000 (text_size p) 4
    ∷ (if has_data p then loaded_section 7 3 (data_address p) (data_offset p) (length p.bytes) 8 ∷ [] else [])

-- symbols link to their strings and tell how many there are; relocations link to symbols and tell whose section they are
abbrev pub tables : Program → List SectionRow
tables p =
    table_section (later_names p) 2 (symbols_at p) (length (symbol_table p)) (symbols_number p + 1) (1 + length p.funcs + length p.objects)
    ∷ strings_section (later_names p + 8) (names_at p) (length (names p))
    ∷ table_section (later_names p + 16) 4 (text_relocations_at p) (length (text_relocations p)) (symbols_number p) 1
    ∷ table_section (later_names p + 27) 4 (data_relocations_at p) (length (data_relocations p)) (symbols_number p) (if has_data p then 2 else 0)
    ∷ strings_section (later_names p + 38) (section_names_at p) (length (section_names p))
    ∷ []

unfoldable pub sections : Program → List SectionRow
sections p = no_section ∷ (text_and_data p ++ tables p)

-- ---- the whole

abbrev pub header_of : Program → FileHeader
header_of p = record {
  entry = p.entry;
  section_headers = sections_at p;
  program_header_count = length (segments p);
  section_header_count = length (sections p);
}

-- the parts of the file after its header, each with its place

unfoldable pub loaded_parts : Program → List (ℕ × List ℕ)
loaded_parts p =
    (64, flat_map program_header (segments p))
    ∷ (0x1000, text_bytes p)
    ∷ (data_offset p, p.bytes)
    ∷ []

unfoldable pub table_parts : Program → List (ℕ × List ℕ)
table_parts p =
    (symbols_at p, symbol_table p)
    ∷ (names_at p, names p)
    ∷ (text_relocations_at p, text_relocations p)
    ∷ (data_relocations_at p, data_relocations p)
    ∷ (section_names_at p, section_names p)
    ∷ []

abbrev pub parts : Program → List (ℕ × List ℕ)
parts p = loaded_parts p ++ (table_parts p ++ (sections_at p, flat_map section_header (sections p)) ∷ [])

unfoldable pub elf_of : Program → List ℕ
elf_of p = laid (file_header (header_of p)) (parts p)
