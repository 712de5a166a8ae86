use Rattle.std.proofs.Common.{◌≡◌, ◌+◌, ◌≤◌, vec_len, vec_capacity}
use Rattle.live_threads.proofs.crew.fn.with_threads.scope.Given as goal

abbrev pub invariant-loop-worker : goal.invariant-loop-worker
invariant-loop-worker g l =
    (l.all.parts + vec_len l.children ≡ l.workers) × (vec_len l.children + 1 ≤ l.worker) × (vec_len l.own ≤ l.worker)
    × (l.workers ≤ vec_capacity l.children) × (l.workers ≤ vec_capacity l.own)
