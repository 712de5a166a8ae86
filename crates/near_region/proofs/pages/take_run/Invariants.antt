use Rattle.std.proofs.Common.{◌≤◌, ◌⊎◌}
use Rattle.near_region.specs.Pages.{TakesRun}
use Rattle.near_region.proofs.pages.take_run.Given as goal

abbrev pub invariant-loop-p : goal.invariant-loop-p
invariant-loop-p l = TakesRun l.first l.p l.fn.taken l.taken × ((l.p ≤ l.end) ⊎ (l.p ≤ l.first))
