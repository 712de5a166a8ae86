use Rattle.std.proofs.Common.{◌≡◌, ◌++◌, map, take, drop}
use Rattle.run_book.specs.Told.{as_told}
use Rattle.live.proofs.telling.tell_each.Given as goal

-- the entries before are told, and the others are as they were
abbrev pub invariant-loop-event : goal.invariant-loop-event
invariant-loop-event l = l.events ≡ map as_told (take l.event-index l.fn.events) ++ drop l.event-index l.fn.events
