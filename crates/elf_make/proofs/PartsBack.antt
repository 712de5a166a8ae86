-- The parts of a program's file are the program's.
use Rattle.std.proofs.Common.{◌≡◌, ℕ, ◌+◌, ◌<◌, Bool, true, false, cond, List, [], ◌∷◌, ◌++◌, length, map, take, drop, refl, sym, ap, ◌∙◌, arith, length-append}
use Rattle.std.specs.Prelude.{if◌then◌else◌, nat_lt}
use Rattle.std.specs.List.{filter, flat_map}
use Rattle.std.proofs.lemmas.Bool.Decides.{nat_tests}
use Rattle.std.proofs.lemmas.List.{append-nil, length-map}
use Rattle.elf_read.specs.declared.elf.Symbol.{Symbol}
use Rattle.elf_read.specs.declared.tables.ProgramHeader.{ProgramHeader}
use Rattle.elf_read.specs.declared.tables.SectionHeader.{SectionHeader}
use Rattle.elf_read.specs.declared.tables.Reloc.{Reloc}
use Rattle.elf_read.specs.Fields.{range_of}
use Rattle.elf_read.specs.Tables as read
use Rattle.elf_read.specs.Faults.{is_loaded, section_headers}
use Rattle.elf_read.specs.Parts as back
use Rattle.elf_read.specs.Relocs.{relocs_of}
use Rattle.elf_read.specs.Parts.{parts_of}
use Rattle.rv_asm.specs.declared.program.Program.{Program}
use Rattle.rv_asm.specs.declared.symbol.Fixup.{Fixup}
use Rattle.elf_make.specs.declared.rows.SectionRow.{SectionRow}
use Rattle.elf_make.specs.Rows.{relocation}
use Rattle.elf_make.specs.File.{text_size, text_bytes, has_data, data_offset, segments, names_at, names, is_of, in_text, in_data, text_relocations, text_relocations_at, data_relocations, data_relocations_at, sections, elf_of}
use Rattle.elf_make.specs.Parts.{text_segment, data_segment, section_of, null_symbol, symbol_of, reloc_of, elf_parts}
use Rattle.elf_make.proofs.Lengths.{length-flat, length-relocation, few}
use Rattle.elf_make.proofs.Holding.{Holds, cut}
use Rattle.elf_make.proofs.Reading.{FitsFixup, Each, each_of, read_reloc, read_table}
use Rattle.elf_make.proofs.Standing.{stands, text_header, data_header, text_len}
use Rattle.elf_make.proofs.Found.{rows_of, spots, text_relocs_row, data_relocs_row, header_part, found_symbols, found_strings, found_relocs, symbols_number_is}
use Rattle.elf_make.proofs.ReadTables.{Fits, head_read, segments_read, sections_read, rows_read}
use Rattle.elf_make.proofs.NamesBack.{names_back, symbols_back, times_24}

less : (m n : ℕ) → m < n → nat_lt m n ≡ true
less m n h = grind (arith, nat_tests)

-- ---- segments

cut_at : (file : List ℕ) (at : ℕ) (xs : List ℕ) (n : ℕ) → length xs ≡ n → Holds file at xs → range_of file at n ≡ xs
cut_at file at xs n len held = ap (λ k. take k (drop at file)) (sym len) ∙ cut file at xs held

loaded_two : {X : Type 0} (f : ProgramHeader → X) (b : Bool) (t d : ProgramHeader) → is_loaded t ≡ true → (b ≡ true → is_loaded d ≡ true) → map f (filter is_loaded (t ∷ (if b then d ∷ [] else []))) ≡ f t ∷ (if b then f d ∷ [] else [])
loaded_two f true t d et ed = rw (et, ed refl) refl
loaded_two f false t d et ed = rw et refl

same_two : {X : Type 0} (b : Bool) (x y v w : X) → x ≡ v → y ≡ w → x ∷ (if b then y ∷ [] else []) ≡ v ∷ (if b then w ∷ [] else [])
same_two true x y v w e f = rw (e, f) refl
same_two false x y v w e f = rw e refl

text_back : (p : Program) → back.segment (elf_of p) (text_header p) ≡ text_segment p
unfolding back.segment
text_back p = rw (cut_at (elf_of p) 0x1000 (text_bytes p) (text_size p) (text_len p) (stands p).text) refl

data_back : (p : Program) → back.segment (elf_of p) (data_header p) ≡ data_segment p
unfolding back.segment
data_back p = rw (cut_at (elf_of p) (data_offset p) p.bytes (length p.bytes) refl (stands p).data_) refl

segments_back : (p : Program) → 0 < length p.text → back.segments (elf_of p) (segments p) ≡ text_segment p ∷ (if has_data p then data_segment p ∷ [] else [])
unfolding back.segments segments
segments_back p some =
    loaded_two (back.segment (elf_of p)) (has_data p) (text_header p) (data_header p) (less 0 (text_size p) (omega arith)) (λ e. e)
    ∙ same_two (has_data p) (back.segment (elf_of p) (text_header p)) (back.segment (elf_of p) (data_header p)) (text_segment p) (data_segment p) (text_back p) (data_back p)

-- ---- symbols

strings_back : (p : Program) → back.strings (elf_of p) (rows_of (has_data p) (spots p)) ((if has_data p then 3 else 2) + 1) ≡ names p
unfolding back.strings
strings_back p = rw (found_strings (has_data p) (spots p)) (cut_at (elf_of p) (names_at p) (names p) (length (names p)) refl (stands p).strings)

symbols_are : (p : Program) → Fits p → back.symbols (elf_of p) (rows_of (has_data p) (spots p)) ≡ null_symbol ∷ (map (symbol_of 2 1) p.funcs ++ map (symbol_of 1 2) p.objects)
unfolding back.symbols
symbols_are p fits = rw (found_symbols (has_data p) (spots p), strings_back p, symbols_back p fits) (names_back p fits)

-- ---- relocations

kept_or_not : {X : Type 0} (P : X → Type 0) (b : Bool) (x : X) (xs : List X) → P x → Each P xs → Each P (cond b (x ∷ xs) xs)
kept_or_not P true x xs one rest = (one, rest)
kept_or_not P false x xs one rest = rest

each_filter : {X : Type 0} (P : X → Type 0) (q : X → Bool) (xs : List X) → Each P xs → Each P (filter q xs)
each_filter P q [] each = record {}
each_filter P q (x ∷ xs) each = kept_or_not P (q x) x (filter q xs) each.0 (each_filter P q xs each.1)

all_pass : {X : Type 0} (q : X → Bool) (xs : List X) → Each (λ x. q x ≡ true) xs → filter q xs ≡ xs
all_pass q [] each = refl
all_pass q (x ∷ xs) each = rw each.0 (ap (λ ys. x ∷ ys) (all_pass q xs each.1))

-- a relocation that fits, and names one of the first symbols
record Aims (n : ℕ) (f : Fixup) : Type 0 where
  fits : FitsFixup f
  below : f.func + 1 < n

aims : (p : Program) (n : ℕ) → Fits p → length p.funcs < n → Each (Aims n) p.fixups
aims p n fits h = each_of (Aims n) p.fixups (λ i d lt.
    let aim = p.aims i d lt in
    let at = (fits.ranges.fixups i d lt).0 in
    let kind = (fits.ranges.fixups i d lt).1 in
    let short = p.short_names in
    let count = few p.funcs in
    record { fits = record { at = omega arith; kind = omega arith; func = omega arith }; below = omega arith })

each_fits : (n : ℕ) (fs : List Fixup) → Each (Aims n) fs → Each FitsFixup fs
each_fits n [] each = record {}
each_fits n (f ∷ fs) each = (each.0.fits, each_fits n fs each.1)

each_below : (n : ℕ) (fs : List Fixup) → Each (Aims n) fs → Each (λ (r : Reloc). nat_lt r.symbol n ≡ true) (map reloc_of fs)
each_below n [] each = record {}
each_below n (f ∷ fs) each = (less (f.func + 1) n each.0.below, each_below n fs each.1)

relocs_back : (p : Program) (n at : ℕ) (fs : List Fixup) (s : SectionHeader) → Each (Aims n) fs → Holds (elf_of p) at (flat_map relocation fs) → s.offset ≡ at → s.size ≡ length (flat_map relocation fs) → relocs_of (elf_of p) n s ≡ map reloc_of fs
unfolding relocs_of
relocs_back p n at fs s each held place size =
    let count = times_24 (length fs) (length (flat_map relocation fs)) (length-flat relocation 24 length-relocation fs) in
    rw (place, size, count, read_table 24 read.reloc relocation reloc_of FitsFixup (elf_of p) (read_reloc (elf_of p)) length-relocation at fs (each_fits n fs each) held)
    (all_pass (λ r. nat_lt r.symbol n) (map reloc_of fs) (each_below n fs each))

text_relocs_back : (p : Program) (n : ℕ) → Fits p → length p.funcs < n → relocs_of (elf_of p) n (text_relocs_row (has_data p) (spots p)) ≡ map reloc_of (in_text p.fixups)
unfolding text_relocations
text_relocs_back p n fits h = relocs_back p n (text_relocations_at p) (in_text p.fixups) (text_relocs_row (has_data p) (spots p)) (each_filter (Aims n) (is_of false) p.fixups (aims p n fits h)) (stands p).text_relocs refl refl

data_relocs_back : (p : Program) (n : ℕ) → Fits p → length p.funcs < n → relocs_of (elf_of p) n (data_relocs_row (has_data p) (spots p)) ≡ map reloc_of (in_data p.fixups)
unfolding data_relocations
data_relocs_back p n fits h = relocs_back p n (data_relocations_at p) (in_data p.fixups) (data_relocs_row (has_data p) (spots p)) (each_filter (Aims n) (is_of true) p.fixups (aims p n fits h)) (stands p).data_relocs refl refl

relocs_are : (p : Program) (n : ℕ) → Fits p → length p.funcs < n → back.relocs (elf_of p) (rows_of (has_data p) (spots p)) (if has_data p then 3 else 2) n ≡ map reloc_of (in_text p.fixups) ++ map reloc_of (in_data p.fixups)
unfolding back.relocs
relocs_are p n fits h = rw (found_relocs (has_data p) (spots p), text_relocs_back p n fits h, data_relocs_back p n fits h, append-nil (map reloc_of (in_data p.fixups))) refl

-- ---- the whole

sections_back : (rows : List SectionRow) → map back.section (map header_part rows) ≡ map section_of rows
sections_back [] = refl
sections_back (r ∷ rows) = ap (λ xs. section_of r ∷ xs) (sections_back rows)

count_segments : (b : Bool) (x y : ProgramHeader) → length (x ∷ (if b then y ∷ [] else [])) ≡ (if b then 2 else 1)
count_segments true x y = refl
count_segments false x y = refl

segment_count : (p : Program) → length (segments p) ≡ (if has_data p then 2 else 1)
unfolding segments
segment_count p = count_segments (has_data p) (text_header p) (data_header p)

abbrev found : Program → List Symbol
found p = null_symbol ∷ (map (symbol_of 2 1) p.funcs ++ map (symbol_of 1 2) p.objects)

enough : (p : Program) → length p.funcs < length (found p)
enough p = omega (arith, length-append (map (symbol_of 2 1) p.funcs) (map (symbol_of 1 2) p.objects), length-map p.funcs (symbol_of 2 1))

pub parts_back : (p : Program) → Fits p → 0 < length p.text → parts_of (elf_of p) ≡ elf_parts p
unfolding parts_of elf_parts
parts_back p fits some =
    let file = elf_of p in
    let rows = rows_read p fits in
    let secs : map back.section (section_headers file) ≡ map section_of (sections p) = ap (map back.section) (sections_read p fits) ∙ sections_back (sections p) in
    let syms : back.symbols file (section_headers file) ≡ found p = ap (back.symbols file) rows ∙ symbols_are p fits in
    rw (head_read p fits, segments_read p fits, segments_back p some, segment_count p, secs, syms, rows, symbols_number_is (has_data p) (spots p), relocs_are p (length (found p)) fits (enough p)) refl
