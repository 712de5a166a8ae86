use Rattle.std.specs.Prelude.{is_some}
use Rattle.sched_log.specs.declared.event.Event.TheVariants.{Given}
use Rattle.recorder.specs.Journals.{is_left_out}
use Rattle.recorder.proofs.Adding.{run_of_entry, attempt_adds, attempt_none}
use Rattle.recorder.proofs.Unfolding.{entered_unfolds, given_atom}
use Rattle.recorder.proofs.recorder.Recorder.replace.Goals as goal
use Rattle.world.specs.Runs.{a_replacement}
use Rattle.world.proofs.RelatedAgain.{attempt_related}

pub returns-clause-err : goal.returns-clause-err
returns-clause-err c =
    attempt_none c.args.plan.now c.args.self.now c.make_replace.new.self _ _ c.make_replace.result c.make_replace.ensures.is c.make_replace.ensures.journal c.make_replace.ensures.marks
    c.make_replace.ensures.gate c.make_replace.ensures.code c.make_replace.ensures.steps

pub returns-clause-related : goal.returns-clause-related
returns-clause-related c = attempt_related c.args.plan.now c.args.self.now.at c.make_replace.new.self.at _ c.make_replace.result c.requires.plan c.make_replace.ensures.is

pub returns-clause-unfolds : goal.returns-clause-unfolds
returns-clause-unfolds c =
    entered_unfolds (is_left_out (is_some c.args.self.now.at.machine.outcome) c.make_replace.result) (Given c.args.plan.now) (a_replacement c.args.plan.now)
    c.args.self.now.journal c.make_replace.new.self.journal (given_atom c.args.plan.now) c.make_replace.ensures.journal

pub returns-clause-runs : goal.returns-clause-runs
returns-clause-runs c =
    run_of_entry (is_left_out (is_some c.args.self.now.at.machine.outcome) c.make_replace.result) (a_replacement c.args.plan.now) c.args.self.now c.make_replace.new.self
    (returns-clause-unfolds c) (attempt_adds c.args.plan.now c.args.self.now.at c.make_replace.new.self.at c.make_replace.result c.requires.plan c.make_replace.ensures.is)
