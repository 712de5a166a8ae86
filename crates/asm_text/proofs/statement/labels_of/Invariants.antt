use Rattle.std.proofs.Common.{◌≡◌, ◌++◌, length, true}
use Rattle.std.specs.List.{list_all}
use Rattle.asm_text.specs.Tokens.{is_name}
use Rattle.asm_text.specs.Statements.{labels_of}
use Rattle.asm_text.proofs.statement.labels_of.Given as goal

abbrev pub invariant-loop-rest : goal.invariant-loop-rest
invariant-loop-rest l = (l.labels ++ labels_of l.rest ≡ labels_of l.tokens) × (list_all is_name (labels_of l.rest) ≡ true)

abbrev pub decreases-loop-rest : goal.decreases-loop-rest
decreases-loop-rest l = length l.rest
