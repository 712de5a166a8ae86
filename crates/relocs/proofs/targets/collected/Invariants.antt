use Rattle.std.proofs.Common.{◌≡◌, take}
use Rattle.std.specs.List.{filter_map, flat_map}
use Rattle.image.specs.Texts.{text_words, aim_of}
use Rattle.relocs.proofs.targets.collected.Given as goal

abbrev pub invariant-loop-t : goal.invariant-loop-t
invariant-loop-t l = l.all.items ≡ filter_map aim_of (flat_map text_words (take l.t-index l.texts))
