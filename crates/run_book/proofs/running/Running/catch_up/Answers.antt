use Rattle.run_book.proofs.Runnings.{caught_up_book}
use Rattle.run_book.proofs.running.Running.catch_up.Goals as goal

pub returns-in-Ok : goal.returns-in-Ok
returns-in-Ok c t total b =
    caught_up_book t total c.args.self.now c.catch_up.new.world b c.requires.spent (c.catch_up.ensures.run t b.run) c.catch_up.ensures.real
    (λ owes a. c.in-Ok.ensures.rests t 0 b.terms.every b.terms.fair b.run owes a) (λ a. c.catch_up.ensures.last t c.args.self.now.last.items b.run a)
