use Rattle.std.proofs.Common.{ap, ◌∙◌}
use Rattle.run_book.specs.Booked.{Booked}
use Rattle.run_book.proofs.Closed.{few_steps, few_entries}
use Rattle.run_book.proofs.book.Book.close.Goals as goal

pub returns-clause-steps : goal.returns-clause-steps
returns-clause-steps g c = few_steps g.J.Run.terms c.self.inside.run.recorder c.self.invariant.0.run

pub returns-clause-entries : goal.returns-clause-entries
returns-clause-entries g c = λ not_spent.
    few_entries g.J.Run.terms c.self.inside.run.recorder c.self.invariant.0.run (c.self.invariant.0.rests (ap (λ (b : Booked). b.spent) c.self.view_is ∙ not_spent))
