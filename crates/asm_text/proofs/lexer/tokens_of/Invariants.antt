use Rattle.std.proofs.Common.{◌≡◌, ◌++◌, [], drop}
use Rattle.asm_text.specs.Tokens.{tokens}
use Rattle.asm_text.specs.declared.token.Mode.TheVariants.{Plain}
use Rattle.asm_text.proofs.lexer.tokens_of.Given as goal

abbrev pub invariant-loop-c : goal.invariant-loop-c
invariant-loop-c l = l.lexer.all.items ++ tokens l.lexer.mode l.lexer.word.items (drop l.c-index l.line) ≡ tokens Plain [] l.line
