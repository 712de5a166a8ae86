use Rattle.std.proofs.Common.{take}
use Rattle.image.specs.Texts.{words_from}
use Rattle.near_region.specs.Pages.{TakesAims}
use Rattle.near_region.proofs.pages.take_targets.Given as goal

abbrev pub invariant-loop-i : goal.invariant-loop-i
invariant-loop-i l = TakesAims (words_from l.start (take l.i l.words)) l.fn.taken l.taken
