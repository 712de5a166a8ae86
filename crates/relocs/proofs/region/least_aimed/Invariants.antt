use Rattle.std.proofs.Common.{◌≡◌, take}
use Rattle.std.specs.List.{flat_map}
use Rattle.image.specs.Texts.{text_words}
use Rattle.relocs.specs.Regions.{least_of}
use Rattle.relocs.proofs.region.least_aimed.Given as goal

abbrev pub invariant-loop-t : goal.invariant-loop-t
invariant-loop-t l = l.least ≡ least_of l.region (flat_map text_words (take l.t-index l.texts))
