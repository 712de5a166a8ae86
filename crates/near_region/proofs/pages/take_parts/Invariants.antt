use Rattle.std.proofs.Common.{take}
use Rattle.near_region.specs.Pages.{TakesParts}
use Rattle.near_region.proofs.pages.take_parts.Given as goal

abbrev pub invariant-loop-part : goal.invariant-loop-part
invariant-loop-part l = TakesParts (take l.part-index l.parts) l.fn.taken l.taken
