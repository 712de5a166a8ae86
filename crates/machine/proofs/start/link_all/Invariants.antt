use Rattle.std.proofs.Common.{◌≡◌, drop}
use Rattle.machine.specs.Start.{with_slots}
use Rattle.machine.proofs.start.link_all.Given as goal

-- the slots that are left make the same
abbrev pub invariant-loop-slot : goal.invariant-loop-slot
invariant-loop-slot l = with_slots (drop l.slot-index l.slots) l.memory.contents ≡ with_slots l.slots l.fn.memory.contents
