use Rattle.std.proofs.Common.{◌≡◌, take}
use Rattle.std.specs.List.{flat_map}
use Rattle.relocs.specs.Built.{parts_in}
use Rattle.relocs.proofs.parts.parts_of.Given as goal

abbrev pub invariant-loop-g : goal.invariant-loop-g
invariant-loop-g l = l.all.items ≡ flat_map (parts_in l.texts) (take l.g-index l.segments)
