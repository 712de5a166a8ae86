use Rattle.std.proofs.Common.{◌-◌, replicate}
use Rattle.world.specs.Worlds.{Replaced}
use Rattle.world.specs.Runs.{a_step}
use Rattle.delivered.specs.Events.{Runs}
use Rattle.play.proofs.schedule.take_steps.Given as goal

-- with the steps that are left all are made
abbrev pub invariant-loop-step : goal.invariant-loop-step
invariant-loop-step l = (v : Replaced) → Runs (replicate (l.count - l._step) (a_step l.h)) l.world v → Runs (replicate l.count (a_step l.h)) l.fn.world v
