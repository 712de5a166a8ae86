use Rattle.std.proofs.Common.{◌≡◌, map, take}
use Rattle.relocs.specs.Built.{text_of}
use Rattle.relocs.proofs.texts.texts_of.Given as goal

abbrev pub invariant-loop-s : goal.invariant-loop-s
invariant-loop-s l = l.texts.items ≡ map (text_of l.holders.segments.now) (take l.s-index l.sections)
