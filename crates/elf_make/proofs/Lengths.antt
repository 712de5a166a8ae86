-- Lengths of entries and tables.
use Rattle.std.proofs.Common.{◌≡◌, ℕ, ◌+◌, ◌*◌, ◌≤◌, List, [], ◌∷◌, length, refl, arith, length-append}
use Rattle.std.specs.List.{flat_map, sum_by}
use Rattle.std.proofs.lemmas.Grind.{common_steps}
use Rattle.byteorder.specs.Numbers.{length-bytes_low_first}
use Rattle.elf_read.specs.declared.tables.ProgramHeader.{ProgramHeader}
use Rattle.elf_read.specs.declared.tables.SymbolEntry.{SymbolEntry}
use Rattle.rv_asm.specs.Kept.{symbol_size}
use Rattle.rv_asm.specs.declared.program.Program.{Program}
use Rattle.rv_asm.specs.declared.symbol.Fixup.{Fixup}
use Rattle.rv_asm.specs.declared.symbol.Named.{Named}
use Rattle.elf_make.specs.declared.rows.FileHeader.{FileHeader}
use Rattle.elf_make.specs.declared.rows.SectionRow.{SectionRow}
use Rattle.elf_make.specs.Bytes.{number, fields}
use Rattle.elf_make.specs.Rows.{header_fields, segment_fields, section_fields, symbol_fields, relocation_fields, file_header, program_header, section_header, symbol_entry, relocation}

pub length-number : (size value : ℕ) → length (number size value) ≡ size
unfolding number
length-number size value = length-bytes_low_first 0 size value

abbrev total : List (ℕ × ℕ) → ℕ
total [] = 0
total (f ∷ fs) = f.0 + total fs

length-fields : (fs : List (ℕ × ℕ)) → length (fields fs) ≡ total fs
length-fields [] = refl
length-fields (f ∷ fs) = let rest = length-fields fs in let one = length-number f.0 f.1 in omega (arith, length-append (number f.0 f.1) (fields fs))

pub length-file_header : (h : FileHeader) → length (file_header h) ≡ 64
unfolding file_header
length-file_header h = omega (arith, length-fields (header_fields h))

pub length-program_header : (h : ProgramHeader) → length (program_header h) ≡ 56
unfolding program_header
length-program_header h = length-fields (segment_fields h)

pub length-section_header : (s : SectionRow) → length (section_header s) ≡ 64
unfolding section_header
length-section_header s = length-fields (section_fields s)

pub length-symbol_entry : (e : SymbolEntry) → length (symbol_entry e) ≡ 24
unfolding symbol_entry
length-symbol_entry e = length-fields (symbol_fields e)

pub length-relocation : (f : Fixup) → length (relocation f) ≡ 24
unfolding relocation
length-relocation f = length-fields (relocation_fields f)

-- a table of entries of one size
pub length-flat : {X : Type 0} (f : X → List ℕ) (size : ℕ) → ((x : X) → length (f x) ≡ size) → (xs : List X) → length (flat_map f xs) ≡ size * length xs
length-flat f size each [] = omega arith
length-flat f size each (x ∷ xs) = let rest = length-flat f size each xs in let one = each x in grind (arith, length-append (f x) (flat_map f xs))

pub few : (xs : List Named) → length xs ≤ sum_by symbol_size xs
few [] = omega arith
few (x ∷ xs) = let rest = few xs in grind (arith, common_steps)

pub text_length : (p : Program) → length (flat_map (number 4) p.text) ≡ 4 * length p.text
text_length p = length-flat (number 4) 4 (length-number 4) p.text

pub header_size : (h : FileHeader) → length (file_header h) ≡ 64
header_size h = length-file_header h

pub headers_size : (hs : List ProgramHeader) → length (flat_map program_header hs) ≡ 56 * length hs
headers_size hs = length-flat program_header 56 length-program_header hs
