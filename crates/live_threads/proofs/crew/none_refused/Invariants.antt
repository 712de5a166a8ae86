use Rattle.std.proofs.Common.{◌≡◌, vec_len}
use Rattle.live_threads.proofs.crew.none_refused.Given as goal

abbrev pub invariant-loop-worker : goal.invariant-loop-worker
invariant-loop-worker l = vec_len l.refused ≡ l._worker
