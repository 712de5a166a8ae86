-- Symbols, and the strings that they name.
use Rattle.std.specs.Prelude.{ℕ, ◌==◌, List, drop}
use Rattle.std.specs.List.{before_first}
use Rattle.elf_read.specs.declared.elf.Symbol.{Symbol}
use Rattle.elf_read.specs.declared.tables.SymbolEntry.{SymbolEntry}

-- the bytes from an offset of the strings up to the next zero byte
unfoldable pub name_at : List ℕ → ℕ → List ℕ
name_at texts at = before_first (λ b. b == 0) (drop at texts)

unfoldable pub symbol : List ℕ → SymbolEntry → Symbol
symbol texts e = record { name = name_at texts e.name; info = e.info; section = e.section; value = e.value; size = e.size }
