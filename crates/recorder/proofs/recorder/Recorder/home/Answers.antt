use Rattle.recorder.proofs.Homing.{home_unfolds, home_runs}
use Rattle.recorder.proofs.recorder.Recorder.home.Goals as goal

pub returns-clause-unfolds : goal.returns-clause-unfolds
returns-clause-unfolds c = λ going. home_unfolds c.args.self.now c.take_in.new.self c.args.away c.take_in.ensures.is

pub returns-clause-runs : goal.returns-clause-runs
returns-clause-runs c = λ going. home_runs c.args.self.now c.take_in.new.self c.args.away c.take_in.ensures.is c.take_in.ensures.run
