use Rattle.std.proofs.Common.{◌-◌}
use Rattle.guest_mem.proofs.PageLaws.{Clears}
use Rattle.guest_mem.proofs.page.Full.clear.Given as goal

abbrev pub invariant-loop-k : goal.invariant-loop-k
invariant-loop-k l = Clears l.lo (l.hi - l.lo) l.k l.fn.self l.self
