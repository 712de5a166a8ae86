use Rattle.std.proofs.Common.{sym, ◌∙◌, subst}
use Rattle.run_book.specs.Booked.{Booked, HasLive}
use Rattle.run_book.proofs.Nexts.{next_live}
use Rattle.run_book.proofs.book.Book.has_next.Goals as goal

pub returns : goal.returns
returns g c some =
    subst (λ (b : Booked). HasLive g.J.Run.terms.workers c.args.worker b.world.at.machine) c.self.view_is
    (subst (λ k. HasLive k c.args.worker c.self.inside.run.recorder.at.machine) c.self.invariant.0.terms.workers
    (next_live c.args.worker c.next.result c.self.inside.run c.next.ensures (sym c.is_some.ensures ∙ some)))
