use Rattle.std.proofs.Common.{◌≡◌, take}
use Rattle.image.proofs.picture.copied_texts.Given as goal

abbrev pub invariant-loop-t : goal.invariant-loop-t
invariant-loop-t l = l.all.items ≡ take l.t-index l.texts
