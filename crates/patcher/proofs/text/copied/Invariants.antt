use Rattle.std.proofs.Common.{◌≡◌, take}
use Rattle.patcher.proofs.text.copied.Given as goal

abbrev pub invariant-loop-section : goal.invariant-loop-section
invariant-loop-section l = l.all.items ≡ take l.section-index l.sections
