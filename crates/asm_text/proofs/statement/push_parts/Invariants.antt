use Rattle.std.proofs.Common.{◌≡◌, ◌++◌, take}
use Rattle.std.specs.List.{flat_map}
use Rattle.asm_text.specs.Statements.{part_statements}
use Rattle.asm_text.proofs.statement.push_parts.Given as goal

abbrev pub invariant-loop-part : goal.invariant-loop-part
invariant-loop-part l = l.all.items ≡ l.fn.all.items ++ flat_map (λ p. part_statements l.line p.now) (take l.part-index l.parts)
