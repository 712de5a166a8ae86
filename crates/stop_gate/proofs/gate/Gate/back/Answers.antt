use Rattle.std.proofs.Common.{ap, ◌∙◌, ◌+◌}
use Rattle.stop_gate.specs.Gates.{back_in, aways}
use Rattle.stop_gate.proofs.Counts.{coming_back_takes}
use Rattle.stop_gate.proofs.gate.Gate.back.Goals as goal

pub returns-clause-less : goal.returns-clause-less
returns-clause-less c = ap (λ v. aways (back_in c.args.h v) + 1) c.self.view_is ∙ coming_back_takes c.args.self.now c.args.h c.requires.away
