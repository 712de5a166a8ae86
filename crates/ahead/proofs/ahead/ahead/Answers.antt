use Rattle.std.proofs.Common.{◌≡◌, ◌+◌, ◌≤◌, length, drop, subst, arith}
use Rattle.std.specs.Arc.{arc_value}
use Rattle.world.specs.Adopting.{adopted, shown_of}
use Rattle.world.specs.Runs.{real_steps_of}
use Rattle.world.specs.Worlds.{Replaced, IsWorld, code_of}
use Rattle.ahead.specs.Flown.{Flown, place_of, IsAt, Leads, flight_to}
use Rattle.ahead.proofs.Makings.{leads_new, next_flight, next_few, steps_seen}
use Rattle.ahead.proofs.ahead.ahead.Goals as goal

pub invariant_of-away : goal.invariant_of-away
invariant_of-away c =
    let a = c.away.inside in
    let new = c.run-made.new.course in
    let flight = c.away.invariant.0 in
    let made = flight.most in
    let most : a.made + c.run-made.result ≤ 64 = omega arith in (
      next_flight c.run-made.result c.deref.result.now (arc_value a.shared) a.course.hart new.hart a.course.notes.items new.notes.items c.deref.ensures c.run-made.ensures.made
          a.hart a.code a.steps a.made (record { regs = a.from_regs; pc = a.from_pc }) flight most,
      next_few c.run-made.result c.deref.result.now (arc_value a.shared) a.course.hart new.hart a.course.notes.items new.notes.items c.deref.ensures c.run-made.ensures.made a.made c.away.invariant.1,
      omega arith,
      c.away.invariant.3,
      c.away.invariant.4,
    )

pub returns-clause-leads : goal.returns-clause-leads
returns-clause-leads c =
    let a = c.away.inside in
    let new = c.run-made.new.course in
    subst (λ (x : Flown). Leads x.hart c.run-made.result x.now (place_of new.hart) (drop (length x.notes) new.notes.items)) c.away.view_is
    (leads_new c.run-made.result c.deref.result.now a.course.hart new.hart a.course.notes.items new.notes.items c.run-made.ensures.made a.hart)

pub returns-clause-steps : goal.returns-clause-steps
returns-clause-steps c =
    let a = c.away.inside in
    let new = c.run-made.new.course in
    subst (λ (x : Flown). (w : Replaced) → IsWorld w → shown_of w ≡ x.shared → IsAt x.hart x.now w
    → real_steps_of c.run-made.result x.hart w ≡ adopted x.hart (flight_to (code_of w) (place_of new.hart) c.run-made.result (drop (length x.notes) new.notes.items)) w) c.away.view_is
    (steps_seen c.run-made.result c.deref.result.now (arc_value a.shared) a.course.hart new.hart a.course.notes.items new.notes.items c.deref.ensures c.run-made.ensures.made a.hart)
