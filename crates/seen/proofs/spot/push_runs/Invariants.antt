use Rattle.std.proofs.Common.{◌≡◌, ◌++◌, drop}
use Rattle.seen.specs.Spots.{spots_in}
use Rattle.seen.proofs.spot.push_runs.Given as goal

abbrev pub invariant-loop-k : goal.invariant-loop-k
invariant-loop-k l = l.list.items ++ spots_in l.func l.k (drop l.k l.runs) ≡ l.initial.list.items ++ spots_in l.func 0 l.runs
