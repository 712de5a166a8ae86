use Rattle.stop_gate.proofs.Counts.{no_aways}
use Rattle.stop_gate.proofs.gate.Gate.stopped.Goals as goal

pub returns-in-None-clause-none : goal.returns-in-None-clause-none
returns-in-None-clause-none c = no_aways c.args.self.now c.in-None.ensures.none
