use Rattle.sim_laws.proofs.Orderly.{replaced_orderly, until_orderly, original_orderly, start_orderly}
use Rattle.sim_laws.proofs.laws.orderly_law.Goals as goal

pub returns : goal.returns
returns _ = record { step = replaced_orderly; steps = until_orderly; original = original_orderly; start = start_orderly }
