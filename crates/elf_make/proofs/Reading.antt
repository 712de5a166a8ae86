-- Entries and tables, read back.
use Rattle.std.proofs.Common.{◌≡◌, ℕ, suc, ◌+◌, ◌*◌, ◌/◌, ◌%◌, ◌^◌, ◌<◌, List, [], ◌∷◌, ◌++◌, length, map, drop, get_or, refl, sym, ap, subst, ◌∙◌, arith}
use Rattle.std.specs.List.{All, flat_map, range_with_len}
use Rattle.std.proofs.lemmas.List.{get_or-drop}
use Rattle.byteorder.specs.Endian.{little_number}
use Rattle.elf_read.specs.declared.header.Header.{Header}
use Rattle.elf_read.specs.declared.tables.ProgramHeader.{ProgramHeader}
use Rattle.elf_read.specs.declared.tables.SymbolEntry.{SymbolEntry}
use Rattle.elf_read.specs.Fields.{u8_at, u16_at, u32_at, u64_at, i64_at}
use Rattle.elf_read.specs.Tables as read
use Rattle.elf_read.specs.Tables.{table}
use Rattle.rv_asm.specs.declared.symbol.Fixup.{Fixup}
use Rattle.elf_read.specs.Header.{header_of}
use Rattle.elf_make.specs.declared.rows.FileHeader.{FileHeader}
use Rattle.elf_make.specs.declared.rows.SectionRow.{SectionRow}
use Rattle.elf_make.specs.Bytes.{fields}
use Rattle.elf_make.specs.Rows.{identification, header_fields, file_header, segment_fields, section_fields, symbol_fields, relocation_fields, program_header, section_header, symbol_entry, relocation}
use Rattle.elf_make.specs.Parts.{reloc_of}
use Rattle.elf_make.proofs.Holding.{Holds, Reads, reads, held_first, held_next}

nothing_more : (n : ℕ) → n + 0 ≡ n
nothing_more n = omega arith

at_start : (file : List ℕ) (at : ℕ) (fs : List (ℕ × ℕ)) → Holds file at (fields fs) → Reads file at 0 fs
at_start file at fs h = reads file at 0 fs (subst (λ n. Holds file n (fields fs)) (sym (nothing_more at)) h)

-- the first field stands where the entry begins
first : (file : List ℕ) (at size value : ℕ) → little_number size (drop (at + 0) file) ≡ value → little_number size (drop at file) ≡ value
first file at size value h = ap (λ n. little_number size (drop n file)) (sym (nothing_more at)) ∙ h

-- ---- the numbers of each entry fit their fields

pub record FitsSegment (h : ProgramHeader) : Type 0 where
  pub kind : h.kind < 256 ^ 4
  pub flags : h.flags < 256 ^ 4
  pub offset : h.offset < 256 ^ 8
  pub address : h.address < 256 ^ 8
  pub file_size : h.file_size < 256 ^ 8
  pub memory_size : h.memory_size < 256 ^ 8

pub read_program_header : (file : List ℕ) (at : ℕ) (h : ProgramHeader) → FitsSegment h → Holds file at (program_header h) → read.program_header file at ≡ h
unfolding program_header read.program_header u32_at u64_at
read_program_header file at h fits held =
    let r : Reads file at 0 (segment_fields h) = at_start file at (segment_fields h) held in
    let kind : little_number 4 (drop at file) ≡ h.kind = first file at 4 h.kind (r.0 fits.kind) in
    let flags : little_number 4 (drop (at + 4) file) ≡ h.flags = r.1.0 fits.flags in
    let offset : little_number 8 (drop (at + 8) file) ≡ h.offset = r.1.1.0 fits.offset in
    let address : little_number 8 (drop (at + 16) file) ≡ h.address = r.1.1.1.0 fits.address in
    let file_size : little_number 8 (drop (at + 32) file) ≡ h.file_size = r.1.1.1.1.1.0 fits.file_size in
    let memory_size : little_number 8 (drop (at + 40) file) ≡ h.memory_size = r.1.1.1.1.1.1.0 fits.memory_size in
    rw (kind, flags, offset, address, file_size, memory_size) refl

pub record FitsSection (s : SectionRow) : Type 0 where
  pub kind : s.header.kind < 256 ^ 4
  pub flags : s.header.flags < 256 ^ 8
  pub address : s.header.address < 256 ^ 8
  pub offset : s.header.offset < 256 ^ 8
  pub size : s.header.size < 256 ^ 8
  pub link : s.header.link < 256 ^ 4

pub read_section_header : (file : List ℕ) (at : ℕ) (s : SectionRow) → FitsSection s → Holds file at (section_header s) → read.section_header file at ≡ s.header
unfolding section_header read.section_header u32_at u64_at
read_section_header file at s fits held =
    let r : Reads file at 0 (section_fields s) = at_start file at (section_fields s) held in
    let kind : little_number 4 (drop (at + 4) file) ≡ s.header.kind = r.1.0 fits.kind in
    let flags : little_number 8 (drop (at + 8) file) ≡ s.header.flags = r.1.1.0 fits.flags in
    let address : little_number 8 (drop (at + 16) file) ≡ s.header.address = r.1.1.1.0 fits.address in
    let offset : little_number 8 (drop (at + 24) file) ≡ s.header.offset = r.1.1.1.1.0 fits.offset in
    let size : little_number 8 (drop (at + 32) file) ≡ s.header.size = r.1.1.1.1.1.0 fits.size in
    let link : little_number 4 (drop (at + 40) file) ≡ s.header.link = r.1.1.1.1.1.1.0 fits.link in
    rw (kind, flags, address, offset, size, link) refl

pub record FitsSymbol (e : SymbolEntry) : Type 0 where
  pub name : e.name < 256 ^ 4
  pub info : e.info < 256 ^ 1
  pub section : e.section < 256 ^ 2
  pub value : e.value < 256 ^ 8
  pub size : e.size < 256 ^ 8

one_byte : (file : List ℕ) (at value : ℕ) → little_number 1 (drop at file) ≡ value → u8_at file at ≡ value
one_byte file at value h = let e = get_or-drop at file 0 0 in let z : at + 0 ≡ at = omega arith in omega (arith, ap (λ n. get_or file n 0) z)

pub read_symbol : (file : List ℕ) (at : ℕ) (e : SymbolEntry) → FitsSymbol e → Holds file at (symbol_entry e) → read.symbol_entry file at ≡ e
unfolding symbol_entry read.symbol_entry u16_at u32_at u64_at
read_symbol file at e fits held =
    let r : Reads file at 0 (symbol_fields e) = at_start file at (symbol_fields e) held in
    let name : little_number 4 (drop at file) ≡ e.name = first file at 4 e.name (r.0 fits.name) in
    let info : u8_at file (at + 4) ≡ e.info = one_byte file (at + 4) e.info (r.1.0 fits.info) in
    let section : little_number 2 (drop (at + 6) file) ≡ e.section = r.1.1.1.0 fits.section in
    let value : little_number 8 (drop (at + 8) file) ≡ e.value = r.1.1.1.1.0 fits.value in
    let size : little_number 8 (drop (at + 16) file) ≡ e.size = r.1.1.1.1.1.0 fits.size in
    rw (name, info, section, value, size) refl

pub record FitsFixup (f : Fixup) : Type 0 where
  pub at : f.at < 256 ^ 8
  pub kind : f.kind < 256 ^ 1
  pub func : f.func < 2 ^ 31

pub read_reloc : (file : List ℕ) (at : ℕ) (f : Fixup) → FitsFixup f → Holds file at (relocation f) → read.reloc file at ≡ reloc_of f
unfolding relocation read.reloc u64_at i64_at
read_reloc file at f fits held =
    let r : Reads file at 0 (relocation_fields f) = at_start file at (relocation_fields f) held in
    let k = fits.kind in
    let n = fits.func in
    let place : little_number 8 (drop at file) ≡ f.at = first file at 8 f.at (r.0 fits.at) in
    let info : little_number 8 (drop (at + 8) file) ≡ (f.func + 1) * 2 ^ 32 + f.kind = r.1.0 (omega arith) in
    let addend : little_number 8 (drop (at + 16) file) ≡ 0 = r.1.1.0 (omega arith) in
    let symbol : ((f.func + 1) * 2 ^ 32 + f.kind) / 2 ^ 32 ≡ f.func + 1 = omega arith in
    let kind : ((f.func + 1) * 2 ^ 32 + f.kind) % 2 ^ 32 ≡ f.kind = omega arith in
    rw (place, info, addend, symbol, kind) refl

-- ---- the header

pub record FitsHeader (h : FileHeader) : Type 0 where
  pub entry : h.entry < 256 ^ 8
  pub section_headers : h.section_headers < 256 ^ 8
  pub program_header_count : h.program_header_count < 256 ^ 2
  pub section_header_count : h.section_header_count < 256 ^ 2

abbrev pub header_read : FileHeader → Header
header_read h = record {
  class = 2;
  endian = 1;
  kind = 2;
  machine = 243;
  entry = h.entry;
  program_headers = 64;
  section_headers = h.section_headers;
  flags = 0;
  program_header_size = 56;
  program_header_count = h.program_header_count;
  section_header_size = 64;
  section_header_count = h.section_header_count;
}

pub begins : (file : List ℕ) (h : FileHeader) → Holds file 0 (file_header h) → (rest : List ℕ) × (file ≡ identification ++ rest)
unfolding file_header
begins file h held = let first = held_first file 0 identification (fields (header_fields h)) held in (first.rest, first.is)

pub read_header : (file : List ℕ) (h : FileHeader) → FitsHeader h → Holds file 0 (file_header h) → header_of file ≡ header_read h
unfolding file_header header_of u16_at u32_at u64_at
read_header file h fits held =
    let starts = begins file h held in
    let class : u8_at file 4 ≡ 2 = ap (λ f. u8_at f 4) starts.1 in
    let endian : u8_at file 5 ≡ 1 = ap (λ f. u8_at f 5) starts.1 in
    let r : Reads file 16 0 (header_fields h) = reads file 16 0 (header_fields h) (held_next file 0 identification (fields (header_fields h)) 16 refl held) in
    let kind : little_number 2 (drop 16 file) ≡ 2 = r.0 (omega arith) in
    let machine : little_number 2 (drop 18 file) ≡ 243 = r.1.0 (omega arith) in
    let entry : little_number 8 (drop 24 file) ≡ h.entry = r.1.1.1.0 fits.entry in
    let headers : little_number 8 (drop 32 file) ≡ 64 = r.1.1.1.1.0 (omega arith) in
    let sections : little_number 8 (drop 40 file) ≡ h.section_headers = r.1.1.1.1.1.0 fits.section_headers in
    let flags : little_number 4 (drop 48 file) ≡ 0 = r.1.1.1.1.1.1.0 (omega arith) in
    let header_size : little_number 2 (drop 54 file) ≡ 56 = r.1.1.1.1.1.1.1.1.0 (omega arith) in
    let header_count : little_number 2 (drop 56 file) ≡ h.program_header_count = r.1.1.1.1.1.1.1.1.1.0 fits.program_header_count in
    let section_size : little_number 2 (drop 58 file) ≡ 64 = r.1.1.1.1.1.1.1.1.1.1.0 (omega arith) in
    let section_count : little_number 2 (drop 60 file) ≡ h.section_header_count = r.1.1.1.1.1.1.1.1.1.1.1.0 fits.section_header_count in
    rw (class, endian, kind, machine, entry, headers, sections, flags, header_size, header_count, section_size, section_count) refl

-- ---- tables

abbrev pub Each : {X : Type 0} → (X → Type 0) → List X → Type 0
Each P [] = Unit {0}
Each P (x ∷ xs) = P x × Each P xs

pub each_of : {X : Type 0} (P : X → Type 0) (xs : List X) → All P xs → Each P xs
each_of P [] all = record {}
each_of P (x ∷ xs) all = (all 0 x (omega arith), each_of P xs (λ i d lt. all (suc i) d (omega arith)))

next_place : (from size a : ℕ) → from + size * (a + 1) ≡ from + size * a + size
next_place from size a = grind arith

rows_from : {X E : Type 0} (size : ℕ) (entry : List ℕ → ℕ → X) (bytes_of : E → List ℕ) (decoded : E → X) (Fits : E → Type 0) (file : List ℕ) → ((at : ℕ) (e : E) → Fits e → Holds file at (bytes_of e) → entry file at ≡ decoded e) → ((e : E) → length (bytes_of e) ≡ size) → (from a : ℕ) (es : List E) → Each Fits es → Holds file (from + size * a) (flat_map bytes_of es) → map (λ i. entry file (from + size * i)) (range_with_len a (length es)) ≡ map decoded es
rows_from size entry bytes_of decoded Fits file reads_one len from a [] fits held = refl
rows_from size entry bytes_of decoded Fits file reads_one len from a (e ∷ es) fits held =
    let here = from + size * a in
    let one : entry file here ≡ decoded e = reads_one here e fits.0 (held_first file here (bytes_of e) (flat_map bytes_of es) held) in
    let place : from + size * (a + 1) ≡ here + length (bytes_of e) = next_place from size a ∙ ap (λ n. here + n) (sym (len e)) in
    let rest = rows_from size entry bytes_of decoded Fits file reads_one len from (a + 1) es fits.1 (held_next file here (bytes_of e) (flat_map bytes_of es) (from + size * (a + 1)) place held) in
    ap (λ x. x ∷ map (λ i. entry file (from + size * i)) (range_with_len (a + 1) (length es))) one ∙ ap (λ xs. decoded e ∷ xs) rest

pub read_table : {X E : Type 0} (size : ℕ) (entry : List ℕ → ℕ → X) (bytes_of : E → List ℕ) (decoded : E → X) (Fits : E → Type 0) (file : List ℕ) → ((at : ℕ) (e : E) → Fits e → Holds file at (bytes_of e) → entry file at ≡ decoded e) → ((e : E) → length (bytes_of e) ≡ size) → (from : ℕ) (es : List E) → Each Fits es → Holds file from (flat_map bytes_of es) → table size entry file from (length es) ≡ map decoded es
unfolding table
read_table size entry bytes_of decoded Fits file reads_one len from es fits held =
    let z : from + size * 0 ≡ from = grind arith in
    rows_from size entry bytes_of decoded Fits file reads_one len from 0 es fits (subst (λ n. Holds file n (flat_map bytes_of es)) (sym z) held)
