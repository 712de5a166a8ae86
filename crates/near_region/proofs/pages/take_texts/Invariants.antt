use Rattle.std.proofs.Common.{take}
use Rattle.near_region.specs.Pages.{TakesTexts}
use Rattle.near_region.proofs.pages.take_texts.Given as goal

abbrev pub invariant-loop-t : goal.invariant-loop-t
invariant-loop-t l = TakesTexts (take l.t-index l.texts) l.fn.taken l.taken
