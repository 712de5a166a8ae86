use Rattle.std.proofs.Common.{◌≡◌, drop, length}
use Rattle.machine.specs.Harts.{waiting_as}
use Rattle.machine.proofs.harts.Harts.set_waiting.Given as goal

-- the waiters that are left make the same
abbrev pub invariant-loop-waiter : goal.invariant-loop-waiter
invariant-loop-waiter l = (waiting_as (drop l.waiter-index l.list) l.self ≡ waiting_as l.list l.fn.self) × (length l.self ≡ length l.fn.self)
