use Rattle.std.proofs.Common.{take}
use Rattle.retire.specs.References.{PointInto}
use Rattle.retire.specs.Marks.{Marked}
use Rattle.retire.proofs.marks.Marks.mark_holders.Given as goal

abbrev pub invariant-loop-at : goal.invariant-loop-at
invariant-loop-at l = Marked (PointInto l.index.lives.now (take l.at-index l.addresses)) l.fn.self l.self
