-- The tables of a program's file, read back.
use Rattle.std.proofs.Common.{◌≡◌, ℕ, ◌+◌, ◌-◌, ◌*◌, ◌/◌, ◌^◌, ◌<◌, ◌≤◌, Bool, true, false, List, [], ◌∷◌, ◌++◌, length, map, refl, subst, ◌∙◌, arith}
use Rattle.std.specs.Prelude.{if◌then◌else◌}
use Rattle.std.proofs.lemmas.List.{map-id}
use Rattle.elf_read.specs.declared.tables.ProgramHeader.{ProgramHeader}
use Rattle.elf_read.specs.Header as read_
use Rattle.elf_read.specs.Faults.{program_headers, section_headers}
use Rattle.elf_read.specs.Tables as read
use Rattle.rv_asm.specs.declared.program.Program.{Program}
use Rattle.elf_make.specs.Rows.{program_header, section_header}
use Rattle.elf_make.specs.File.{text_size, has_data, data_address, data_offset, segments, symbols_at, symbol_table, names_at, names, text_relocations_at, text_relocations, data_relocations_at, data_relocations, section_names_at, section_names, sections_at, no_section, loaded_section, strings_section, table_section, symbols_number, later_names, tables, sections, header_of, elf_of}
use Rattle.elf_make.specs.Ranges.{IsProgramInRange}
use Rattle.elf_make.proofs.Lengths.{length-program_header, length-section_header}
use Rattle.elf_make.proofs.Holding.{Holds}
use Rattle.elf_make.proofs.Reading.{FitsSegment, FitsSection, Each, header_read, read_program_header, read_section_header, read_header, read_table}
use Rattle.elf_make.proofs.Standing.{stands, text_header, data_header, few_segments}
use Rattle.elf_make.proofs.Found.{rows_of, spots, header_part, rows_are}

-- the program's numbers fit their types, and its file fits in memory
pub record Fits (p : Program) : Type 0 where
  pub ranges : IsProgramInRange p
  pub size : length (elf_of p) < 2 ^ 64

pub each_maybe : {X : Type 0} (P : X → Type 0) (b : Bool) (x : X) (ys : List X) → P x → Each P ys → Each P ((if b then x ∷ [] else []) ++ ys)
each_maybe P true x ys one rest = (one, rest)
each_maybe P false x ys one rest = rest

pub maybe_nil : {X : Type 0} (b : Bool) (x : X) → (if b then x ∷ [] else []) ++ [] ≡ (if b then x ∷ [] else [])
maybe_nil true x = refl
maybe_nil false x = refl

eight_at_most : {X : Type 0} (b : Bool) (x : X) (ys : List X) (n : ℕ) → length ys ≤ n → length ((if b then x ∷ [] else []) ++ ys) ≤ n + 1
eight_at_most true x ys n h = omega arith
eight_at_most false x ys n h = omega arith

few_sections : (p : Program) → length (sections p) ≤ 8
unfolding sections
few_sections p = let few = eight_at_most (has_data p) (loaded_section 7 3 (data_address p) (data_offset p) (length p.bytes) 8) (tables p) 5 (omega arith) in omega arith

pub head_read : (p : Program) → Fits p → read_.header_of (elf_of p) ≡ header_read (header_of p)
head_read p fits =
    let file = elf_of p in
    let st = stands p in
    let end_ = st.section_headers.within in
    let size = fits.size in
    let entry = fits.ranges.entry in
    let segs = few_segments p in
    let secs = few_sections p in
    read_header file (header_of p) (record { entry = omega arith; section_headers = omega arith; program_header_count = omega arith; section_header_count = omega arith }) st.header

offset_small : (b : Bool) (n k : ℕ) → n ≤ k → (if b then (n + (4096 - 1)) / 4096 * 4096 else n) ≤ k + 4096
offset_small true n k h = omega arith
offset_small false n k h = omega arith

pub data_offset_small : (p : Program) → data_offset p < 2 ^ 26
data_offset_small p = let t = p.text_limit in let o = offset_small (has_data p) (0x1000 + text_size p) (0x1000 + 16777216) (omega arith) in omega arith

fits_text : (p : Program) → FitsSegment (text_header p)
fits_text p = let t = p.text_limit in record { kind = omega arith; flags = omega arith; offset = omega arith; address = omega arith; file_size = omega arith; memory_size = omega arith }

fits_data : (p : Program) → FitsSegment (data_header p)
fits_data p =
    let t = p.text_limit in
    let d = p.data_limit in
    let o = data_offset_small p in
    record { kind = omega arith; flags = omega arith; offset = omega arith; address = omega arith; file_size = omega arith; memory_size = omega arith }

fits_segments : (p : Program) → Each FitsSegment (segments p)
unfolding segments
fits_segments p = (fits_text p, subst (Each FitsSegment) (maybe_nil (has_data p) (data_header p)) (each_maybe FitsSegment (has_data p) (data_header p) [] (fits_data p) (record {})))

pub segments_read : (p : Program) → Fits p → program_headers (elf_of p) ≡ segments p
unfolding program_headers
segments_read p fits =
    rw (head_read p fits)
    (read_table 56 read.program_header program_header (λ (h : ProgramHeader). h) FitsSegment (elf_of p) (read_program_header (elf_of p)) length-program_header 64 (segments p) (fits_segments p) (stands p).program_headers
    ∙ map-id (segments p))

fits_table : (p : Program) → Fits p → (at : ℕ) (part : List ℕ) → Holds (elf_of p) at part → (name kind link info : ℕ) → kind < 5 → link < 5 → FitsSection (table_section name kind at (length part) link info)
fits_table p fits at part held name kind link info k l =
    let within = held.within in
    let size = fits.size in
    record { kind = omega arith; flags = omega arith; address = omega arith; offset = omega arith; size = omega arith; link = omega arith }

fits_strings : (p : Program) → Fits p → (at : ℕ) (part : List ℕ) → Holds (elf_of p) at part → (name : ℕ) → FitsSection (strings_section name at (length part))
fits_strings p fits at part held name =
    let within = held.within in
    let size = fits.size in
    record { kind = omega arith; flags = omega arith; address = omega arith; offset = omega arith; size = omega arith; link = omega arith }

fits_null : FitsSection no_section
fits_null = record { kind = omega arith; flags = omega arith; address = omega arith; offset = omega arith; size = omega arith; link = omega arith }

fits_loaded : (name flags address offset size align : ℕ) → flags < 8 → address < 2 ^ 40 → offset < 2 ^ 40 → size < 2 ^ 40 → FitsSection (loaded_section name flags address offset size align)
fits_loaded name flags address offset size align f a o s = record { kind = omega arith; flags = omega arith; address = omega arith; offset = omega arith; size = omega arith; link = omega arith }

number_small : (b : Bool) → (if b then 3 else 2) + 1 < 5
number_small true = omega arith
number_small false = omega arith

fits_sections : (p : Program) → Fits p → Each FitsSection (sections p)
unfolding sections
fits_sections p fits =
    let st = stands p in
    let t = p.text_limit in
    let d = p.data_limit in
    let o = data_offset_small p in
    let n = number_small (has_data p) in
    let k = symbols_number p in
    let l = later_names p in (
      fits_null,
      (
        fits_loaded 1 6 0x10000 0x1000 (text_size p) 4 (omega arith) (omega arith) (omega arith) (omega arith),
        each_maybe FitsSection (has_data p) (loaded_section 7 3 (data_address p) (data_offset p) (length p.bytes) 8) (tables p)
            (fits_loaded 7 3 (data_address p) (data_offset p) (length p.bytes) 8 (omega arith) (omega arith) (omega arith) (omega arith)) (
              fits_table p fits (symbols_at p) (symbol_table p) st.symbols l 2 (k + 1) (1 + length p.funcs + length p.objects) (omega arith) n,
              (
                fits_strings p fits (names_at p) (names p) st.strings (l + 8),
                (
                  fits_table p fits (text_relocations_at p) (text_relocations p) st.text_relocs (l + 16) 4 k 1 (omega arith) (omega arith),
                  (
                    fits_table p fits (data_relocations_at p) (data_relocations p) st.data_relocs (l + 27) 4 k (if has_data p then 2 else 0) (omega arith) (omega arith),
                    (fits_strings p fits (section_names_at p) (section_names p) st.titles (l + 38), record {}),
                  ),
                ),
              ),
            ),
      ),
    )

pub sections_read : (p : Program) → Fits p → section_headers (elf_of p) ≡ map header_part (sections p)
unfolding section_headers
sections_read p fits =
    rw (head_read p fits)
    (read_table 64 read.section_header section_header header_part FitsSection (elf_of p) (read_section_header (elf_of p)) length-section_header (sections_at p) (sections p) (fits_sections p fits) (stands p).section_headers)

pub rows_read : (p : Program) → Fits p → section_headers (elf_of p) ≡ rows_of (has_data p) (spots p)
rows_read p fits = sections_read p fits ∙ rows_are p
