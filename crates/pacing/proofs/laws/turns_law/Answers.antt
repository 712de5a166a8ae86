use Rattle.pacing.proofs.Serves.{own_turn, other_turn, served_in_turn}
use Rattle.pacing.proofs.laws.turns_law.Goals as goal

pub returns : goal.returns
returns _ = record { own = own_turn; other = other_turn; served = served_in_turn }
