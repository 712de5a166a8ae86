use Rattle.std.proofs.Common.{take}
use Rattle.rv_asm.specs.Emission.{AreWords}
use Rattle.rv_asm.proofs.emit.words_of.Given as goal

abbrev pub invariant-loop-i : goal.invariant-loop-i
invariant-loop-i l = AreWords l.words.items (take l.i l.codes)
