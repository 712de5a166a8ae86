use Rattle.std.proofs.Common.{◌≡◌, ◌+◌, ◌++◌, drop, map}
use Rattle.asm_text.specs.Statements.{statements_from}
use Rattle.asm_text.proofs.statement.statements_of_lines.Given as goal

abbrev pub invariant-loop-i : goal.invariant-loop-i
invariant-loop-i l = l.all.items ++ statements_from (l.i + 1) (drop l.i (map (λ x. x.now) l.lines)) ≡ statements_from 1 (map (λ x. x.now) l.lines)
