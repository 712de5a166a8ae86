use Rattle.run_book.proofs.running.Running.begin.Goals as goal

pub returns-in-Some : goal.returns-in-Some
returns-in-Some c t total b = c.leave.ensures t total (c.catch_up.ensures t total b)
