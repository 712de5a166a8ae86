use Rattle.std.proofs.Common.{◌≡◌}
use Rattle.live_threads.proofs.ending.sections.Given as goal

abbrev pub invariant-loop-worker : goal.invariant-loop-worker
invariant-loop-worker g l = l.all.parts ≡ l.fn.all.parts
