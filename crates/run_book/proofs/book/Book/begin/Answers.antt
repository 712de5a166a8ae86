use Rattle.std.proofs.Common.{subst}
use Rattle.run_book.specs.Booked.{Booked}
use Rattle.run_book.specs.Told.{told, BeginsWith}
use Rattle.run_book.proofs.Growing.{from_now, book_from_now}
use Rattle.run_book.proofs.book.Book.begin.Goals as goal

pub invariant_of-self : goal.invariant_of-self
invariant_of-self g c = (c.begin.ensures g.J.Run.terms c.self.inside.total.total c.self.invariant.0, c.self.invariant.1)

pub returns-clause-grows : goal.returns-clause-grows
returns-clause-grows g c =
    let r = c.self.inside.run in
    let total = c.self.inside.total.total in
    subst (λ (b : Booked). BeginsWith (told c.begin.new.self.recorder) (told b.world)) c.self.view_is
    (c.begin.ensures (from_now g.J.Run.terms r) total (book_from_now g.J.Run.terms total r c.self.invariant.0)).run.begins
