use Rattle.std.proofs.Common.{◌≡◌, ◌+◌, vec_len}
use Rattle.live_threads.proofs.crew.gather.Given as goal

abbrev pub invariant-loop-child : goal.invariant-loop-child
invariant-loop-child g l = l.all.parts + vec_len l.children ≡ l.fn.all.parts + vec_len l.fn.children

abbrev pub decreases-loop-child : goal.decreases-loop-child
decreases-loop-child g l = vec_len l.children
