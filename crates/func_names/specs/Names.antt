-- The name of a function: that of the first symbol that says of exactly its addresses that they are a function.
-- Source: the ELF specification, "Symbol Table"; which of several symbols gives the name is this project's own.
use Rattle.std.specs.Prelude.{ℕ, Bool, ◌==◌, ◌&&◌, List, [], map, find}
use Rattle.std.specs.Option.{option_map_or}
use Rattle.elf_read.specs.declared.elf.Symbol.{Symbol}
use Rattle.image.specs.declared.ranges.Func.{Func}
use Rattle.relocs.specs.Functions.{is_code, symbol_end}

-- the symbol is one of a function at these addresses
abbrev pub is_of : Func → Symbol → Bool
is_of f s = is_code s && (s.value == f.from && symbol_end s == f.to)

unfoldable pub name_of : List Symbol → Func → List ℕ
name_of symbols f = option_map_or (λ s. s.name) (find (is_of f) symbols) []

-- the names of functions, in their order
abbrev pub names_of : List Symbol → List Func → List (List ℕ)
names_of symbols funcs = map (name_of symbols) funcs
