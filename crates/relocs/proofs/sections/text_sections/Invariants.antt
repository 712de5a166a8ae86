use Rattle.std.proofs.Common.{◌≡◌, take, filter}
use Rattle.relocs.specs.Sections.{is_text}
use Rattle.relocs.proofs.sections.text_sections.Given as goal

abbrev pub invariant-loop-s : goal.invariant-loop-s
invariant-loop-s l = l.texts.items ≡ filter is_text (take l.s-index l.sections)
