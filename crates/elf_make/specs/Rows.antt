-- The file's header and the entries of its tables, as bytes: of each field its size and its value.
use Rattle.std.specs.Prelude.{ℕ, ◌+◌, ◌-◌, ◌*◌, ◌^◌, List, [], ◌∷◌, ◌++◌}
use Rattle.elf_read.specs.declared.tables.ProgramHeader.{ProgramHeader}
use Rattle.elf_read.specs.declared.tables.SymbolEntry.{SymbolEntry}
use Rattle.rv_asm.specs.declared.symbol.Fixup.{Fixup}
use Rattle.elf_make.specs.declared.rows.FileHeader.{FileHeader}
use Rattle.elf_make.specs.declared.rows.SectionRow.{SectionRow}
use Rattle.elf_make.specs.Bytes.{fields}

-- an ELF file of 64 bits (2), little endian (1), of version 1
abbrev pub identification : List ℕ
identification = 0x7F ∷ 0x45 ∷ 0x4C ∷ 0x46 ∷ 2 ∷ 1 ∷ 1 ∷ 0 ∷ 0 ∷ 0 ∷ 0 ∷ 0 ∷ 0 ∷ 0 ∷ 0 ∷ 0 ∷ []

-- an executable (2) for RISC-V (243), of version 1, with no flags; program headers follow at 64
abbrev pub header_fields : FileHeader → List (ℕ × ℕ)
header_fields h =
    (2, 2) ∷ (2, 243) ∷ (4, 1) ∷ (8, h.entry) ∷ (8, 64) ∷ (8, h.section_headers) ∷ (4, 0) ∷ (2, 64)
    ∷ (2, 56) ∷ (2, h.program_header_count) ∷ (2, 64) ∷ (2, h.section_header_count) ∷ (2, h.section_header_count - 1) ∷ []

unfoldable pub file_header : FileHeader → List ℕ
file_header h = identification ++ fields (header_fields h)

-- the physical address is the address, and segments stand at multiples of 4096
abbrev pub segment_fields : ProgramHeader → List (ℕ × ℕ)
segment_fields h =
    (4, h.kind) ∷ (4, h.flags) ∷ (8, h.offset) ∷ (8, h.address) ∷ (8, h.address)
    ∷ (8, h.file_size) ∷ (8, h.memory_size) ∷ (8, 4096) ∷ []

unfoldable pub program_header : ProgramHeader → List ℕ
program_header h = fields (segment_fields h)

abbrev pub section_fields : SectionRow → List (ℕ × ℕ)
section_fields s =
    (4, s.name) ∷ (4, s.header.kind) ∷ (8, s.header.flags) ∷ (8, s.header.address) ∷ (8, s.header.offset)
    ∷ (8, s.header.size) ∷ (4, s.header.link) ∷ (4, s.info) ∷ (8, s.align) ∷ (8, s.entry_size) ∷ []

unfoldable pub section_header : SectionRow → List ℕ
section_header s = fields (section_fields s)

abbrev pub symbol_fields : SymbolEntry → List (ℕ × ℕ)
symbol_fields e = (4, e.name) ∷ (1, e.info) ∷ (1, 0) ∷ (2, e.section) ∷ (8, e.value) ∷ (8, e.size) ∷ []

unfoldable pub symbol_entry : SymbolEntry → List ℕ
symbol_entry e = fields (symbol_fields e)

-- the symbol of a function stands one further than the function, after the null symbol; nothing is added to its address
abbrev pub relocation_fields : Fixup → List (ℕ × ℕ)
relocation_fields f = (8, f.at) ∷ (8, (f.func + 1) * 2 ^ 32 + f.kind) ∷ (8, 0) ∷ []

unfoldable pub relocation : Fixup → List ℕ
relocation f = fields (relocation_fields f)
