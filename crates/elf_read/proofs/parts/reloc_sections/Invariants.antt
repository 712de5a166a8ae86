use Rattle.std.proofs.Common.{◌≡◌, ◌==◌, ◌&&◌, take, filter}
use Rattle.elf_read.proofs.parts.reloc_sections.Given as goal

abbrev pub invariant-loop-s : goal.invariant-loop-s
invariant-loop-s l = l.all.items ≡ filter (λ s. s.kind == 4 && s.link == l.place) (take l.s-index l.sections)
