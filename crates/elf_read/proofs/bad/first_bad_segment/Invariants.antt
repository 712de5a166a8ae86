use Rattle.std.proofs.Common.{take}
use Rattle.elf_read.specs.Spans.{AreSpansOf}
use Rattle.elf_read.proofs.BadLemmas.{AreGood}
use Rattle.elf_read.proofs.bad.first_bad_segment.Given as goal

abbrev pub invariant-loop-i : goal.invariant-loop-i
invariant-loop-i l = AreSpansOf (take l.i l.headers) l.spans × AreGood l.headers l.i
