use Rattle.std.proofs.Common.{◌≡◌, ◌&&◌, length}
use Rattle.std.specs.List.{list_all}
use Rattle.asm_text.specs.Tokens.{is_name}
use Rattle.asm_text.specs.Statements.{labels_of}
use Rattle.asm_text.proofs.statement.are_names.Given as goal

abbrev pub invariant-loop-rest : goal.invariant-loop-rest
invariant-loop-rest l = (l.all && list_all is_name (labels_of l.rest)) ≡ list_all is_name (labels_of l.tokens)

abbrev pub decreases-loop-rest : goal.decreases-loop-rest
decreases-loop-rest l = length l.rest
