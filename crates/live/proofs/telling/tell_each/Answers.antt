use Rattle.run_book.specs.Told.{as_told}
use Rattle.machine.proofs.HartLists.{changed_next}
use Rattle.live.proofs.telling.tell_each.Goals as goal

pub loop-event-preserved : goal.loop-event-preserved
loop-event-preserved c = changed_next as_told c.args.events.now c.loop-event.events c.loop-event.event-index _ _ c.loop-event-test.true c.loop-event.invariant c.tell.ensures
