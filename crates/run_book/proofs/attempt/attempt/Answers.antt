use Rattle.std.proofs.Common.{rules}
use Rattle.run_book.proofs.Stops.{attempt_rested}
use Rattle.run_book.proofs.attempt.attempt.Goals as goal

pub returns-in-Ok-clause-rests : goal.returns-in-Ok-clause-rests
returns-in-Ok-clause-rests c =
    attempt_rested c.args.world.now c.in-Ok.stopped.world.now c.attempt_stopped.new.world.world.now _ _ c.attempt_stopped.result c.in-Ok.ensures.now (search rules) (search rules)
    c.attempt_stopped.ensures.rests
