use Rattle.guest_gen.proofs.Promised.{gave_up}
use Rattle.guest_gen.proofs.call.give_up.Goals as goal

pub returns : goal.returns
returns g c = λ rest. gave_up _ _ c.write_err.result (c.write_err.ensures rest)
