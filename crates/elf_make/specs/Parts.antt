-- What a program is as an executable that is read.
use Rattle.std.specs.Prelude.{ℕ, ◌+◌, ◌-◌, pos, [], ◌∷◌, ◌++◌, length, map, if◌then◌else◌}
use Rattle.elf_read.specs.declared.elf.Elf.{Elf}
use Rattle.elf_read.specs.declared.elf.Section.{Section}
use Rattle.elf_read.specs.declared.elf.Segment.{Segment}
use Rattle.elf_read.specs.declared.elf.Symbol.{Symbol}
use Rattle.elf_read.specs.declared.tables.Reloc.{Reloc}
use Rattle.elf_read.specs.Parts.{section}
use Rattle.rv_asm.specs.declared.program.Program.{Program}
use Rattle.rv_asm.specs.declared.symbol.Fixup.{Fixup}
use Rattle.rv_asm.specs.declared.symbol.Named.{Named}
use Rattle.elf_make.specs.declared.rows.SectionRow.{SectionRow}
use Rattle.elf_make.specs.File.{text_bytes, text_size, has_data, data_address, data_offset, sections, in_text, in_data}

abbrev pub text_segment : Program → Segment
text_segment p = record { flags = 5; offset = 0x1000; at = 0x10000; memsize = text_size p; bytes = text_bytes p }

abbrev pub data_segment : Program → Segment
data_segment p = record { flags = 6; offset = data_offset p; at = data_address p; memsize = length p.bytes; bytes = p.bytes }

abbrev pub section_of : SectionRow → Section
section_of s = section s.header

abbrev pub null_symbol : Symbol
null_symbol = record { name = []; info = 0; section = 0; value = 0; size = 0 }

abbrev pub symbol_of : ℕ → ℕ → Named → Symbol
symbol_of info section n = record { name = n.name; info = info; section = section; value = n.from; size = n.to - n.from }

abbrev pub reloc_of : Fixup → Reloc
reloc_of f = record { at = f.at; symbol = f.func + 1; kind = f.kind; addend = pos 0 }

-- the segments of text and data, the sections of the file, functions and objects after the null symbol, and the
-- relocations of text before those of data
unfoldable pub elf_parts : Program → Elf
elf_parts p = record {
  entry = p.entry;
  phoff = 64;
  phnum = if has_data p then 2 else 1;
  segments = text_segment p ∷ (if has_data p then data_segment p ∷ [] else []);
  sections = map section_of (sections p);
  symbols = null_symbol ∷ (map (symbol_of 2 1) p.funcs ++ map (symbol_of 1 2) p.objects);
  relocs = map reloc_of (in_text p.fixups) ++ map reloc_of (in_data p.fixups);
}
