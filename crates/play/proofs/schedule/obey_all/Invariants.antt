use Rattle.std.proofs.Common.{drop}
use Rattle.world.specs.Worlds.{Replaced}
use Rattle.delivered.specs.Events.{Played}
use Rattle.play.specs.Ready.{AreReady}
use Rattle.play.proofs.schedule.obey_all.Given as goal

-- the events that are left can be done, and with them all are
abbrev pub invariant-loop-event : goal.invariant-loop-event
invariant-loop-event l = record {
  ready : AreReady (drop l.event-index l.events) l.world;
  rest : (v : Replaced) → Played (drop l.event-index l.events) l.world v → Played l.events l.fn.world v;
}
