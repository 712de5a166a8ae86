use Rattle.std.proofs.Common.{List, ℕ, Bor, sym, ◌∙◌}
use Rattle.sched_log.specs.Plans.{moved_of}
use Rattle.script_words.proofs.Found.{next_read, next_unread}
use Rattle.script_words.proofs.line_parts.read_pieces.Goals as goal

pub returns-in_default : goal.returns-in_default
returns-in_default c =
    sym (next_unread moved_of (λ (w : Bor (List ℕ)). w.now) c.loop-piece.parts c.args.pieces.now c.loop-piece.piece-index _ c.loop-piece-test.true
    (sym c.in_default.is ∙ c.in_ok-moved.ensures))
    ∙ c.loop-piece.invariant

pub loop-piece-preserved : goal.loop-piece-preserved
loop-piece-preserved c =
    rw (c.in_ok-push.ensures.ok)
    (sym (next_read moved_of (λ (w : Bor (List ℕ)). w.now) c.loop-piece.parts c.args.pieces.now c.loop-piece.piece-index _ c.in-Some.moved c.loop-piece-test.true
    (sym c.in-Some.is ∙ c.in_ok-moved.ensures))
    ∙ c.loop-piece.invariant)
