use Rattle.run_book.proofs.Runnings.{settled_book}
use Rattle.run_book.proofs.running.Running.settle.Goals as goal

pub returns-in-Ok-Snapped : goal.returns-in-Ok-Snapped
returns-in-Ok-Snapped c t total b =
    c.hand_out.ensures t total
    (settled_book t total c.args.self.now c.settle.new.world b (c.settle.ensures.run t b.run) c.settle.ensures.real
    (λ a. c.in-Ok-Snapped.ensures.rests t b.terms.every b.terms.fair b.run a) (λ a. c.settle.ensures.last t c.args.self.now.last.items b.run a))
