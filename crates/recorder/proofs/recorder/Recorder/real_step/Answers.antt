use Rattle.std.proofs.Common.{ap, ◌∙◌, subst, arith}
use Rattle.std.specs.Prelude.{vec_len, vec_capacity}
use Rattle.std.specs.Arc.{arc_value}
use Rattle.recorder.specs.declared.journal.Asked.TheVariants.{RealStep}
use Rattle.recorder.specs.Journals.{journal_of, noted}
use Rattle.recorder.specs.Recording.{Recorded}
use Rattle.recorder.proofs.Adding.{Adds, run_of_log, real_step_adds}
use Rattle.recorder.proofs.Keeping.{after_as, real_after, kept_after, code_after, if_some_more}
use Rattle.recorder.proofs.Unfolding.{noted_unfolds}
use Rattle.recorder.proofs.recorder.Recorder.real_step.Goals as goal
use Rattle.world.specs.Runs.{a_real_step, is_over, of_real, real_step_of}

pub invariant_of-self-2 : goal.invariant_of-self-2
invariant_of-self-2 c =
    let range = c.real-real.type_inv in
    let real = c.real-real.ensures in
    let room = c.in-Ok.ensures.ok in
    let len = c.note.ensures.len in
    let cap = c.note.ensures.kept in
    let w = c.self.inside.world in
    let after = after_as w (real_step_of c.args.h w) c.real_step.new.self c.in-Ok-real_step.ensures.step (real_after c.args.h w) in (
      kept_after w c.real_step.new.self c.self.inside.marks c.self.inside.gate c.self.inside.steps c.count_step.new.steps c.self.inside.away
          (vec_len c.self.inside.journal.entries) (vec_len c.note.new.self.entries) (vec_capacity c.self.inside.journal.entries) (vec_capacity c.note.new.self.entries) (arc_value c.self.inside.image)
          (omega (arith, range, real)) after.later c.count_step.ensures.harts (omega (arith, room, len, cap)) c.self.invariant.0,
      if_some_more c.self.inside.shared (λ x same. code_after w c.real_step.new.self after (arc_value x) same) c.self.invariant.1,
    )

pub returns-clause-unfolds : goal.returns-clause-unfolds
returns-clause-unfolds c =
    noted_unfolds (is_over c.in-Ok-real_step.kind) (RealStep c.args.h) c.args.self.now.journal (journal_of c.note.new.self)
    (c.note.ensures.is ∙ ap (λ b. noted b (RealStep c.args.h) (journal_of c.room.new.self)) c.is_over-left_out.ensures
    ∙ ap (noted (is_over c.in-Ok-real_step.kind) (RealStep c.args.h)) (c.room.ensures.same ∙ ap (λ (x : Recorded). x.journal) c.self.view_is))

pub returns-clause-runs : goal.returns-clause-runs
returns-clause-runs c =
    let k = c.in-Ok-real_step.kind in
    let made = real_step_adds c.args.h k c.self.inside.world c.real_step.new.self c.in-Ok-real_step.ensures.kind c.in-Ok-real_step.ensures.step c.in-Ok-real_step.ensures.over.0 in
    run_of_log (is_over k) (a_real_step c.args.h) (of_real k c.args.h) c.args.self.now c.note.new.self.entries.items c.real_step.new.self (returns-clause-unfolds c)
    (subst (λ x. Adds (is_over k) (a_real_step c.args.h) (of_real k c.args.h) x c.real_step.new.self) (ap (λ (x : Recorded). x.at) c.self.view_is) made)
