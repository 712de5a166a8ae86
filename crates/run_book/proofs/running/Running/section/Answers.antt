use Rattle.std.proofs.Common.{subst, arith}
use Rattle.run_book.specs.Booked.{IsBook}
use Rattle.run_book.proofs.running.Running.section.Goals as goal

pub returns-then-is_done-2 : goal.returns-then-is_done-2
returns-then-is_done-2 c t total b = subst (λ k. IsBook t k c.catch_up.new.self) (omega arith) (c.catch_up.ensures t total b)

pub returns : goal.returns
returns c t total b = c.serve.ensures t total (c.catch_up.ensures t total b)
