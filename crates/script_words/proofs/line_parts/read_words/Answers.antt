use Rattle.std.proofs.Common.{List, ℕ, Bor, sym, ◌∙◌}
use Rattle.texts.specs.Texts.{number_of}
use Rattle.script_words.proofs.Found.{next_read, next_unread}
use Rattle.script_words.proofs.line_parts.read_words.Goals as goal

pub returns-in_default : goal.returns-in_default
returns-in_default c =
    sym (next_unread number_of (λ (w : Bor (List ℕ)). w.now) c.loop-word.numbers c.args.words.now c.loop-word.word-index _ c.loop-word-test.true
    (sym c.in_default.is ∙ c.number_of.ensures))
    ∙ c.loop-word.invariant

pub loop-word-preserved : goal.loop-word-preserved
loop-word-preserved c =
    rw (c.in_ok-push.ensures.ok)
    (sym (next_read number_of (λ (w : Bor (List ℕ)). w.now) c.loop-word.numbers c.args.words.now c.loop-word.word-index _ c.in-Some.number c.loop-word-test.true
    (sym c.in-Some.is ∙ c.number_of.ensures))
    ∙ c.loop-word.invariant)
