use Rattle.std.proofs.Common.{◌≡◌, [], replicate, subst, sym}
use Rattle.std.proofs.lemmas.Result.{on_ok_weaker}
use Rattle.world.specs.Runs.{a_real_step, a_snap, a_replacement, a_retirement}
use Rattle.delivered.specs.Events.{Runs, Obeyed}
use Rattle.std.specs.Prelude.{None}
use Rattle.plans.specs.Given.{plan_fault}
use Rattle.play.specs.Ready.{CanObey}
use Rattle.play.proofs.Running.{real_runs, runs_cons, runs_none}
use Rattle.play.proofs.schedule.obey.Goals as goal

pub returns-in-Steps : goal.returns-in-Steps
returns-in-Steps c = on_ok_weaker c.take_steps.result (λ is. subst (λ e. Obeyed e c.args.world.now c.take_steps.new.world) (sym c.in-Steps.is) is) c.take_steps.ensures

pub returns-in-Real : goal.returns-in-Real
returns-in-Real c = on_ok_weaker c.run.result (λ is.
    subst (λ e. Obeyed e c.args.world.now c.run.new.self) (sym c.in-Real.is)
    (subst (Runs (replicate c.in-Real.n (a_real_step c.in-Real.h)) c.args.world.now) (sym is) (real_runs c.in-Real.n c.in-Real.h c.args.world.now))) c.run.ensures.ok

pub returns-in-Till : goal.returns-in-Till
returns-in-Till c = on_ok_weaker c.take_turns.result (λ is. subst (λ e. Obeyed e c.args.world.now c.take_turns.new.world) (sym c.in-Till.is) is) c.take_turns.ensures

pub returns-in-Snap : goal.returns-in-Snap
returns-in-Snap c = on_ok_weaker c.snap.result (λ is.
    subst (λ e. Obeyed e c.args.world.now c.snap.new.world) (sym c.in-Snap.is)
    (runs_cons a_snap [] c.args.world.now c.snap.new.world c.snap.new.world is (runs_none c.snap.new.world))) c.snap.ensures

pub returns-in-Replace : goal.returns-in-Replace
returns-in-Replace c = on_ok_weaker c.replace_by_snapshot.result (λ is.
    let run = runs_cons (a_replacement is.0) [] c.args.world.now c.replace_by_snapshot.new.world c.replace_by_snapshot.new.world (is.2, is.3) (runs_none c.replace_by_snapshot.new.world) in
    subst (λ e. Obeyed e c.args.world.now c.replace_by_snapshot.new.world) (sym c.in-Replace.is) (run.0, (is.0, is.1, run.1))) c.replace_by_snapshot.ensures

pub returns-in-Given : goal.returns-in-Given
returns-in-Given c =
    let fine : plan_fault c.args.world.now.image c.in-Given.plan ≡ None = subst (λ e. CanObey e c.args.world.now) c.in-Given.is c.requires in
    on_ok_weaker c.replace.result (λ is.
    subst (λ e. Obeyed e c.args.world.now c.replace.new.world) (sym c.in-Given.is)
    (runs_cons (a_replacement c.in-Given.plan) [] c.args.world.now c.replace.new.world c.replace.new.world (fine, is) (runs_none c.replace.new.world))) c.replace.ensures

pub returns-in-Retire : goal.returns-in-Retire
returns-in-Retire c = on_ok_weaker c.retire.result (λ is.
    subst (λ e. Obeyed e c.args.world.now c.retire.new.world) (sym c.in-Retire.is)
    (runs_cons a_retirement [] c.args.world.now c.retire.new.world c.retire.new.world is (runs_none c.retire.new.world))) c.retire.ensures
