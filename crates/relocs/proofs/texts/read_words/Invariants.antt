use Rattle.std.proofs.Common.{◌≡◌}
use Rattle.elf_read.specs.Fields.{u32_at}
use Rattle.elf_read.specs.Tables.{table}
use Rattle.relocs.proofs.texts.read_words.Given as goal

abbrev pub invariant-loop-i : goal.invariant-loop-i
invariant-loop-i l = l.words.items ≡ table 4 u32_at l.bytes l.from l.i
