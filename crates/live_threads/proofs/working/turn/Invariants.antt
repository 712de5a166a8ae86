use Rattle.std.proofs.Common.{◌≡◌}
use Rattle.live_threads.proofs.working.turn.Given as goal

abbrev pub invariant-loop-worker : goal.invariant-loop-worker
invariant-loop-worker g l = l.hand.parts ≡ l.fn.hand.parts
