-- Symbols of functions in a map, by their addresses and sizes.
use Rattle.std.specs.Prelude.{ℕ, ◌-◌, Option}
use Rattle.std.specs.Ordering.{nat_cmp, ordering_then}
use Rattle.std.specs.BTreeMap.{BTreeMap, get}
use Rattle.std.specs.declared.cmp.Ordering.{Ordering}
use Rattle.elf_read.specs.declared.elf.Symbol.{Symbol}
use Rattle.image.specs.declared.ranges.Func.{Func}

-- by the address, and then by the size
abbrev pub pair_cmp : ℕ × ℕ → ℕ × ℕ → Ordering
pair_cmp x y = ordering_then (nat_cmp x.0 y.0) (nat_cmp x.1 y.1)

-- the symbol that a map has for a function
abbrev pub first_of : BTreeMap (ℕ × ℕ) Symbol → Func → Option Symbol
first_of m f = get pair_cmp m (f.from, f.to - f.from)
