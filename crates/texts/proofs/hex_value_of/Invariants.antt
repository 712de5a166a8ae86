use Rattle.std.proofs.Common.{◌≡◌, ◌<◌, ◌^◌, take}
use Rattle.texts.specs.Texts.{hex_value_of}
use Rattle.texts.proofs.hex_value_of.Given as goal

abbrev pub invariant-loop-d : goal.invariant-loop-d
invariant-loop-d l = (l.value ≡ hex_value_of (take l.d-index l.digits)) × (l.value < 16 ^ l.d-index)
