use Rattle.std.proofs.Common.{◌≡◌, ◌+◌, ◌++◌, take, drop}
use Rattle.std.specs.List.{All, flat_map, sum_by}
use Rattle.rv_asm.specs.Kept.{symbol_size}
use Rattle.elf_make.specs.Rows.{symbol_entry}
use Rattle.elf_make.specs.File.{symbols_of}
use Rattle.elf_make.specs.Ranges.{IsInRange}
use Rattle.elf_make.proofs.tables.push_symbols.Given as goal

abbrev pub invariant-loop-n : goal.invariant-loop-n
invariant-loop-n l = record {
  bytes : l.out.items ++ flat_map symbol_entry (symbols_of l.info l.section l.at (drop l.n-index l.items)) ≡ l.initial.out.items ++ flat_map symbol_entry (symbols_of l.info l.section l.name l.items);
  room : l.at + sum_by symbol_size (drop l.n-index l.items) ≡ l.name + sum_by symbol_size l.items;
  range : All IsInRange (take l.n-index l.items);
}
