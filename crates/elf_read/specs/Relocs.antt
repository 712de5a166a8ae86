-- Relocations.
use Rattle.std.specs.Prelude.{◌≡◌, ℕ, ◌/◌, Bool, true, nat_lt, List, filter}
use Rattle.std.specs.List.{list_any}
use Rattle.elf_read.specs.declared.tables.Reloc.{Reloc}
use Rattle.elf_read.specs.declared.tables.SectionHeader.{SectionHeader}
use Rattle.elf_read.specs.Tables.{table, reloc}

-- those of so many entries from a place on whose symbol is one of the first n
abbrev pub entries_from : List ℕ → ℕ → ℕ → ℕ → List Reloc
entries_from bytes n from count = filter (λ r. nat_lt r.symbol n) (table 24 reloc bytes from count)

-- the relocations of one section whose symbol is one of the first n
unfoldable pub relocs_of : List ℕ → ℕ → SectionHeader → List Reloc
relocs_of bytes n s = entries_from bytes n s.offset (s.size / 24)

-- what a test finds in one list it finds in the other
abbrev pub AreSame : List Reloc → List Reloc → Type 0
AreSame xs ys = (test : Reloc → Bool) → list_any test xs ≡ list_any test ys

abbrev pub AreAmong : List Reloc → List Reloc → Type 0
AreAmong xs ys = (test : Reloc → Bool) → list_any test xs ≡ true → list_any test ys ≡ true
