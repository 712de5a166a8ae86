use Rattle.std.proofs.Common.{◌≡◌, drop, length}
use Rattle.machine.specs.Harts.{woken}
use Rattle.machine.proofs.harts.Harts.wake.Given as goal

-- the harts that are left make the same
abbrev pub invariant-loop-k : goal.invariant-loop-k
invariant-loop-k l = (woken (drop l.k-index l.list) l.self ≡ woken l.list l.fn.self) × (length l.self ≡ length l.fn.self)
