use Rattle.world.proofs.Running.{run_sound, run_follows, stretched_follows, stretched_harts}
use Rattle.world.proofs.RecordedRuns.{run_records}
use Rattle.world.proofs.laws.runs_law.Goals as goal

pub returns-clause-sound : goal.returns-clause-sound
returns-clause-sound c = run_sound

pub returns-clause-follows : goal.returns-clause-follows
returns-clause-follows c = run_follows

pub returns-clause-stretched : goal.returns-clause-stretched
returns-clause-stretched c = stretched_follows

pub returns-clause-harts : goal.returns-clause-harts
returns-clause-harts c = stretched_harts

pub returns-clause-records : goal.returns-clause-records
returns-clause-records c = run_records
