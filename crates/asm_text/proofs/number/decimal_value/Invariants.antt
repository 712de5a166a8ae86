use Rattle.std.proofs.Common.{◌≡◌, take}
use Rattle.texts.specs.Texts.{value_of}
use Rattle.asm_text.specs.Numbers.{capped}
use Rattle.asm_text.proofs.number.decimal_value.Given as goal

abbrev pub invariant-loop-d : goal.invariant-loop-d
invariant-loop-d l = l.value ≡ capped (value_of (take l.d-index l.digits))
