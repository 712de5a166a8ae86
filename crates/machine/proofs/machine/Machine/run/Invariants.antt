use Rattle.std.proofs.Common.{◌≡◌, replicate}
use Rattle.machine.specs.Steps.{original_run}
use Rattle.machine.proofs.machine.Machine.run.Given as goal

-- so many steps are made
abbrev pub invariant-loop-step : goal.invariant-loop-step
invariant-loop-step l = l.self ≡ original_run l.image (replicate l._step l.h) l.fn.self
