use Rattle.std.proofs.Common.{◌≡◌, [], false, drop}
use Rattle.asm_text.specs.Operands.{unescaped}
use Rattle.asm_text.proofs.operand.unescaped.Given as goal

abbrev pub invariant-loop-c : goal.invariant-loop-c
invariant-loop-c l = unescaped l.bytes.items l.escaped (drop l.c-index l.text) ≡ unescaped [] false l.text
