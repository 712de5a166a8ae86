use Rattle.report.proofs.Ending.{gave_up}
use Rattle.report.proofs.writing.give_up.Goals as goal

pub returns : goal.returns
returns g c = λ rest. gave_up _ _ c.write_err.result _ (c.write_err.ensures rest) c.refused.ensures
