use Rattle.std.proofs.Common.{take}
use Rattle.relocs.specs.Spans.{AreSpansOf}
use Rattle.relocs.proofs.OutsideLemmas.{AreInside}
use Rattle.relocs.proofs.sections.first_outside.Given as goal

abbrev pub invariant-loop-i : goal.invariant-loop-i
invariant-loop-i l = AreSpansOf (take l.i l.texts) l.spans × AreInside l.holders.segments.now l.texts l.i
