use Rattle.run_book.proofs.Stops.{on_ok}
use Rattle.run_book.proofs.settle.catch_up.Goals as goal

pub returns-in-Some-clause-rests : goal.returns-in-Some-clause-rests
returns-in-Some-clause-rests c = on_ok c.attempt.result c.attempt.ensures.rests (λ rests t spare every fair run owes amid. rests t spare fair run owes amid)

pub returns-in-Overdue-clause-rests : goal.returns-in-Overdue-clause-rests
returns-in-Overdue-clause-rests c = on_ok c.attempt_late.result c.attempt_late.ensures.rests (λ rests t spare every fair run owes amid. rests t spare fair run owes amid)
