use Rattle.std.proofs.Common.{◌+◌}
use Rattle.run_book.proofs.running.Running.serve.Goals as goal

pub returns-in-Some : goal.returns-in-Some
returns-in-Some c t total b = c.settle.ensures t (total + c.visit-made.result) (c.visit-made.ensures t total b)
