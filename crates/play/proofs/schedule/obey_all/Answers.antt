use Rattle.std.proofs.Common.{subst}
use Rattle.delivered.specs.Events.{Obeyed}
use Rattle.play.proofs.ReadyNext.{ready_after}
use Rattle.play.proofs.Running.{events_left}
use Rattle.play.proofs.schedule.obey_all.Goals as goal

pub loop-event-preserved : goal.loop-event-preserved
loop-event-preserved c =
    let run = subst (λ e. Obeyed e c.loop-event.world c.obey.new.world) c.event-item.is c.in_ok-obey.ensures in
    record {
      ready = ready_after c.args.events.now c.loop-event.event-index c.event-item.result c.loop-event.world c.obey.new.world c.loop-event-test.true c.loop-event.invariant.ready run;
      rest = λ v more. c.loop-event.invariant.rest v
          (events_left c.args.events.now c.loop-event.event-index c.event-item.result c.loop-event.world c.obey.new.world v c.loop-event-test.true run more);
    }
