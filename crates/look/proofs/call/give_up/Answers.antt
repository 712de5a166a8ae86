use Rattle.look.proofs.Promised.{gave_up}
use Rattle.look.proofs.call.give_up.Goals as goal

pub returns : goal.returns
returns g c = λ rest. rw (c.answered.ensures) (gave_up _ _ c.write_err.result (c.write_err.ensures rest))
