use Rattle.std.proofs.Common.{length, ap, arith}
use Rattle.std.specs.Arc.{arc_value}
use Rattle.ahead.proofs.Coming.{leave_flight}
use Rattle.ahead.proofs.away.Away.leave.Goals as goal

pub invariant_of-result : goal.invariant_of-result
invariant_of-result c =
    let none = ap length c.in_ok-notes.ensures.items in (
      leave_flight c.args.hart c.args.code_number c.args.steps (record { regs = c.args.regs.now; pc = c.args.pc }) c.in_ok-notes.notes.items (arc_value c.args.code) c.in_ok-notes.ensures.items,
      omega arith,
      c.in_ok-notes.ensures.capacity,
      c.in_ok-transfers.ensures.capacity,
      c.in_ok-transfers.ensures.items,
    )
