use Rattle.std.proofs.Common.{◌≡◌, take}
use Rattle.image.proofs.picture.copied_parts.Given as goal

abbrev pub invariant-loop-p : goal.invariant-loop-p
invariant-loop-p l = l.all.items ≡ take l.p-index l.parts
