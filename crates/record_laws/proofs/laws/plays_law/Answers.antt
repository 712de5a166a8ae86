use Rattle.record_laws.proofs.Playing.{played}
use Rattle.record_laws.proofs.laws.plays_law.Goals as goal

pub returns : goal.returns
returns _ = played
