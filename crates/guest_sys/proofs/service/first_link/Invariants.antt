use Rattle.std.proofs.Common.{◌≡◌, ◌+◌, ◌-◌}
use Rattle.guest_sys.specs.Services.{registers, first_link}
use Rattle.guest_sys.proofs.service.first_link.Given as goal

-- the answer is that of the registers still to come
abbrev pub invariant-loop-k : goal.invariant-loop-k
invariant-loop-k l = first_link l.fn.regs (registers l.fn.first l.fn.count) ≡ first_link l.fn.regs (registers l.k (l.fn.first + l.fn.count - l.k))
