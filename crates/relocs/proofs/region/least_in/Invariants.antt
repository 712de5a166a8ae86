use Rattle.std.proofs.Common.{◌≡◌, ◌+◌, ◌*◌, drop}
use Rattle.image.specs.Texts.{words_from}
use Rattle.relocs.specs.Regions.{least_of, lesser}
use Rattle.relocs.proofs.region.least_in.Given as goal

abbrev pub invariant-loop-i : goal.invariant-loop-i
invariant-loop-i l = lesser l.least (least_of l.region (words_from (l.start + 4 * l.i) (drop l.i l.words))) ≡ least_of l.region (words_from l.start l.words)
