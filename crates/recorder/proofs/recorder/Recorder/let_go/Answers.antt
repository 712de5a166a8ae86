use Rattle.std.proofs.Common.{◌≡◌, ◌+◌, true, not, length, sym, ap, ◌∙◌, subst, arith}
use Rattle.std.specs.Prelude.{is_some, vec_len, vec_capacity}
use Rattle.std.specs.Arc.{arc_value}
use Rattle.machine.specs.Harts.{is_live, hart_in}
use Rattle.machine.specs.Steps.{can_step}
use Rattle.machine.proofs.HartLists.{live_made}
use Rattle.machine.proofs.Still.{can_live}
use Rattle.recorder.specs.Recording.{Recorded}
use Rattle.recorder.proofs.Keeping.{kept_left}
use Rattle.recorder.proofs.recorder.Recorder.let_go.Goals as goal
use Rattle.stop_gate.specs.Gates.{aways}
use Rattle.stop_gate.proofs.Counts.{aways_at_most}

pub pack-requires : goal.pack-requires
pack-requires c =
    let s = c.args.self.now.at.machine in
    live_made s.harts c.args.h (can_live (not (is_some s.outcome)) (is_live (hart_in s.harts c.args.h).status) c.requires.can)

pub overflow_add-self : goal.overflow_add-self
overflow_add-self c =
    let many = c.self.invariant.0.many in
    let most = aways_at_most (length c.self.inside.world.machine.harts) c.self.inside.gate c.self.invariant.0.made in
    let made = c.made-made.ensures.system in
    let harts = c.made-made.ensures.harts in
    let few = c.kept.ensures.system.few_made in
    omega (arith, many, most, made, harts, few)

pub invariant_of-self-2 : goal.invariant_of-self-2
invariant_of-self-2 c =
    let s = c.self.inside in
    let can = subst (λ (r : Recorded). can_step c.args.h r.at.machine ≡ true) (sym (c.self.view_is ∙ c.pack.ensures.same)) c.requires.can in
    let made = live_made s.world.machine.harts c.args.h (can_live (not (is_some s.world.machine.outcome)) (is_live (hart_in s.world.machine.harts c.args.h).status) can) in
    let room = c.in-Ok-room.ensures.ok in (
      kept_left s.world s.marks s.gate c.leave.new.self s.steps c.args.h s.away (vec_len s.journal.entries) (vec_len c.room.new.self.entries)
          (vec_capacity s.journal.entries) (vec_capacity c.room.new.self.entries) (arc_value s.image) made c.in-Ok-leave.ensures.ok c.in-Ok-leave.ensures.more (omega (arith, room)) c.self.invariant.0,
      c.self.invariant.1,
    )

pub returns-clause-more : goal.returns-clause-more
returns-clause-more c = c.in-Ok-leave.ensures.more ∙ ap (λ (r : Recorded). aways r.gate + 1) (c.self.view_is ∙ c.pack.ensures.same)
