use Rattle.std.proofs.Common.{◌-◌}
use Rattle.world.specs.Worlds.{Replaced}
use Rattle.delivered.specs.Events.{turns, Runs}
use Rattle.play.proofs.schedule.take_turns.Given as goal

-- with the turns that are left all are made
abbrev pub invariant-loop-turn : goal.invariant-loop-turn
invariant-loop-turn l = (v : Replaced) → Runs (turns (l.count - l._turn) l.world) l.world v → Runs (turns l.count l.fn.world) l.fn.world v
