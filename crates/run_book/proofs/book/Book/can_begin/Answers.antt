use Rattle.std.proofs.Common.{sym, ◌∙◌, subst}
use Rattle.run_book.specs.Booked.{Booked, HasLive}
use Rattle.run_book.proofs.Nexts.{next_live}
use Rattle.run_book.proofs.book.Book.can_begin.Goals as goal

pub returns-then-not-is_done-clause-live : goal.returns-then-not-is_done-clause-live
returns-then-not-is_done-clause-live g c some =
    subst (λ (b : Booked). HasLive g.J.Run.terms.workers c.args.worker b.world.at.machine) c.self.view_is
    (subst (λ k. HasLive k c.args.worker c.self.inside.run.recorder.at.machine) c.self.invariant.0.terms.workers
    (next_live c.args.worker c.may_begin.result c.self.inside.run c.may_begin.ensures.serves (sym c.is_some.ensures ∙ some)))
