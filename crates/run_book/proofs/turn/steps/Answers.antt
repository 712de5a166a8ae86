use Rattle.std.proofs.Common.{◌≡◌, ◌<◌, is_some, refl, true, false, subst, sym, ◌∙◌, ap, arith}
use Rattle.machine.specs.Steps.{can_step}
use Rattle.pacing.specs.Limits.{visit_limit}
use Rattle.recorder.specs.declared.journal.Asked.TheVariants.{RealStep}
use Rattle.recorder.specs.Journals.{noted}
use Rattle.world.specs.Worlds.{Replaced}
use Rattle.world.specs.Runs.{is_over}
use Rattle.run_book.specs.Visits.{IsPart}
use Rattle.run_book.proofs.Parts.{real_kind, not_over, one_made}
use Rattle.run_book.proofs.turn.steps.Goals as goal

pub loop-made-init : goal.loop-made-init
loop-made-init c = ((λ w ended room begun. begun), refl)

pub loop-made-preserved : goal.loop-made-preserved
loop-made-preserved c =
    let u = c.loop-made.world in
    let can : can_step c.args.h u.at.machine ≡ true = sym (c.can_step.ensures ∙ ap (λ (x : Replaced). can_step c.args.h x.machine) c.world.ensures) ∙ c.if-not-can_step.false in
    let going : is_some u.at.machine.outcome ≡ false = not_over c.args.h u.at.machine can in
    let real = real_kind c.in-Ok._kind c.in-Ok.ensures.real (λ e. let over = c.in-Ok.ensures.over.0 e in cc) in
    let below : c.loop-made.made < visit_limit = let t = c.loop-made-test.true in omega (arith, t) in (
      (λ w ended room begun. one_made c.loop-made.made c.args.h w u c.real_step.new.self ended below room (c.loop-made.invariant.0 w ended room begun) can c.in-Ok.ensures.step
          (sym c.in-Ok.ensures.kind ∙ real) (subst (λ k. c.real_step.new.self.journal ≡ noted (is_over k) (RealStep c.args.h) u.journal) real c.in-Ok.ensures.journal) c.real_step.ensures.marks
          (c.in-Ok.ensures.one real) c.in-Ok.ensures.follows),
      c.real_step.ensures.gate ∙ c.loop-made.invariant.1,
    )

pub returns-clause-part : goal.returns-clause-part
returns-clause-part c w ended room begun =
    let test = c.loop-made-test.false in
    let end = c.loop-made.auto.made-end in
    subst (λ n. IsPart true n c.args.h w c.loop-made.world) (omega (arith, test, end)) (c.loop-made.invariant.0 w ended room begun)
