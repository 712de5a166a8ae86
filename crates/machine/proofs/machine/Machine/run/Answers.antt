use Rattle.std.proofs.Common.{◌≡◌, ℕ, ◌+◌, ◌-◌, suc, sym, ap, ◌∙◌, arith, is_some, true, replicate}
use Rattle.machine.specs.States.{State}
use Rattle.machine.specs.Steps.{original_step, original_run}
use Rattle.machine.proofs.Stays.{stays, one_more, run_both}
use Rattle.machine.proofs.machine.Machine.run.Goals as goal

pub returns-then-is_some-clause-ok : goal.returns-then-is_some-clause-ok
returns-then-is_some-clause-ok c =
    let image = c.args.image.now in
    let start = c.args.self.now in
    let h = c.args.h in
    let i = c.loop-step._step in
    let left = c.args.steps - suc i in
    let made : c.real_original.new.self ≡ original_run image (replicate (suc i) h) start =
    c.in_ok-real_original.ensures.step ∙ ap (original_step image h) c.loop-step.invariant ∙ sym (one_more image h i start) in
    let some : is_some (original_run image (replicate (suc i) h) start).outcome ≡ true =
    sym (ap (λ (s : State). is_some s.outcome) made) ∙ sym (ap is_some c.in_ok-real_original.ensures.outcome) ∙ sym c.if-is_some.ensures in
    let all : left + suc i ≡ c.args.steps = omega arith in
    made ∙ sym (stays image (replicate left h) (original_run image (replicate (suc i) h) start) some) ∙ sym (run_both image h left (suc i) start)
    ∙ ap (λ (k : ℕ). original_run image (replicate k h) start) all

pub loop-step-preserved : goal.loop-step-preserved
loop-step-preserved c =
    let image = c.args.image.now in
    let start = c.args.self.now in
    let h = c.args.h in
    let i = c.loop-step._step in
    let next : suc i ≡ i + 1 = omega arith in
    c.in_ok-real_original.ensures.step ∙ ap (original_step image h) c.loop-step.invariant ∙ sym (one_more image h i start)
    ∙ ap (λ (k : ℕ). original_run image (replicate k h) start) next
