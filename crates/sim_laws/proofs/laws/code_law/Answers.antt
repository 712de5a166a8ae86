use Rattle.sim_laws.proofs.CodeFacts.{code_is}
use Rattle.sim_laws.proofs.laws.code_law.Goals as goal

pub returns : goal.returns
returns _ = λ p now lives are. code_is p now lives are
