use Rattle.std.proofs.Common.{◌≡◌, ◌++◌, replicate}
use Rattle.elf_make.proofs.bytes.fill.Given as goal

abbrev pub invariant-loop-i : goal.invariant-loop-i
invariant-loop-i l = l.file.items ≡ l.initial.file.items ++ replicate l._i 0
