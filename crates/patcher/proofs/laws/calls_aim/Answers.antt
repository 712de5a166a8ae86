use Rattle.patcher.proofs.Keeps.{aims}
use Rattle.patcher.proofs.laws.calls_aim.Goals as goal

pub returns : goal.returns
returns c = aims
