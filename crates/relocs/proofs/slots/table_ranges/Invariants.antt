use Rattle.std.proofs.Common.{◌≡◌, map, take, filter}
use Rattle.relocs.specs.Named.{is_table, table_range}
use Rattle.relocs.proofs.slots.table_ranges.Given as goal

abbrev pub invariant-loop-i : goal.invariant-loop-i
invariant-loop-i l = l.ranges.items ≡ map table_range (filter is_table (take l.i l.symbols))
