use Rattle.std.proofs.Common.{◌≡◌, take}
use Rattle.texts.specs.Texts.{hex_value_of}
use Rattle.asm_text.specs.Numbers.{capped}
use Rattle.asm_text.proofs.number.hex_value.Given as goal

abbrev pub invariant-loop-d : goal.invariant-loop-d
invariant-loop-d l = l.value ≡ capped (hex_value_of (take l.d-index l.digits))
