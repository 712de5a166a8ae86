use Rattle.std.specs.Prelude.{is_some}
use Rattle.sched_log.specs.declared.event.Event.TheVariants.{Snap}
use Rattle.recorder.proofs.Adding.{on_ok, snap_runs}
use Rattle.recorder.proofs.Unfolding.{entered_unfolds, snap_atom}
use Rattle.recorder.proofs.recorder.Recorder.snap.Goals as goal
use Rattle.world.specs.Runs.{a_snap}

pub returns-clause-unfolds : goal.returns-clause-unfolds
returns-clause-unfolds c =
    on_ok c.make_snap.result (entered_unfolds (is_some c.args.self.now.at.machine.outcome) Snap a_snap c.args.self.now.journal c.make_snap.new.self.journal snap_atom) c.make_snap.ensures.journal

pub returns-clause-runs : goal.returns-clause-runs
returns-clause-runs c = snap_runs c.args.self.now c.make_snap.new.self c.make_snap.result c.make_snap.ensures.is (returns-clause-unfolds c) c.make_snap.ensures.err
