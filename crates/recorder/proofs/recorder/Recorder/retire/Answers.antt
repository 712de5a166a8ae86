use Rattle.std.specs.Prelude.{is_some}
use Rattle.sched_log.specs.declared.event.Event.TheVariants.{Retire}
use Rattle.recorder.proofs.Adding.{on_ok, retirement_runs}
use Rattle.recorder.proofs.Unfolding.{entered_unfolds, retire_atom}
use Rattle.recorder.proofs.recorder.Recorder.retire.Goals as goal
use Rattle.world.specs.Runs.{a_retirement}
use Rattle.world.proofs.Retirement.{answer_related, related_leads}

pub returns-clause-related : goal.returns-clause-related
returns-clause-related c = answer_related c.args.self.now.at c.make_retire.new.self.at _ c.make_retire.result c.make_retire.ensures.is

pub returns-clause-leads : goal.returns-clause-leads
returns-clause-leads c = λ o r. related_leads c.make_retire.new.self.at o (returns-clause-related c o r)

pub returns-clause-unfolds : goal.returns-clause-unfolds
returns-clause-unfolds c =
    on_ok c.make_retire.result (entered_unfolds (is_some c.args.self.now.at.machine.outcome) Retire a_retirement c.args.self.now.journal c.make_retire.new.self.journal retire_atom)
    c.make_retire.ensures.journal

pub returns-clause-runs : goal.returns-clause-runs
returns-clause-runs c = retirement_runs c.args.self.now c.make_retire.new.self c.make_retire.result c.make_retire.ensures.is (returns-clause-unfolds c) c.make_retire.ensures.err
