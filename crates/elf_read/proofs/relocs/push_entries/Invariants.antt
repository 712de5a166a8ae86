use Rattle.std.proofs.Common.{◌≡◌, ◌++◌}
use Rattle.elf_read.specs.Relocs.{entries_from}
use Rattle.elf_read.proofs.relocs.push_entries.Given as goal

abbrev pub invariant-loop-i : goal.invariant-loop-i
invariant-loop-i l = l.out.items ≡ l.initial.out.items ++ entries_from l.bytes l.symbols l.from l.i
