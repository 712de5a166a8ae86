use Rattle.std.proofs.Common.{◌≡◌}
use Rattle.world.specs.Runs.{real_steps_of}
use Rattle.world.proofs.world.World.make_run.Given as goal

-- the steps so far
abbrev pub invariant-loop-step : goal.invariant-loop-step
invariant-loop-step l = l.self ≡ real_steps_of l._step l.h l.fn.self
