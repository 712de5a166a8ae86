-- Where the tables of a program's file stand.
use Rattle.std.specs.Prelude.{ℕ, List, length}
use Rattle.rv_asm.specs.declared.program.Program.{Program}
use Rattle.elf_make.specs.declared.rows.Place.{Place}
use Rattle.elf_make.specs.declared.rows.Places.{Places}
use Rattle.elf_make.specs.File.{symbols_at, symbol_table, names_at, names, text_relocations_at, text_relocations, data_relocations_at, data_relocations, section_names_at, section_names}

abbrev pub place : ℕ → List ℕ → Place
place at part = record { offset = at; size = length part }

unfoldable pub places : Program → Places
places p = record {
  symbols = place (symbols_at p) (symbol_table p);
  names = place (names_at p) (names p);
  text_relocations = place (text_relocations_at p) (text_relocations p);
  data_relocations = place (data_relocations_at p) (data_relocations p);
  section_names = place (section_names_at p) (section_names p);
}
