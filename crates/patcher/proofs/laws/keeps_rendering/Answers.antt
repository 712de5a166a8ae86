use Rattle.patcher.proofs.Keeps.{keeps}
use Rattle.patcher.proofs.laws.keeps_rendering.Goals as goal

pub returns : goal.returns
returns c = keeps
