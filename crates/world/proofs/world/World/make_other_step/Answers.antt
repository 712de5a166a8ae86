use Rattle.world.proofs.Found.{found}
use Rattle.world.proofs.world.World.make_other_step.Goals as goal

pub other_step_in-requires-clause-found : goal.other_step_in-requires-clause-found
other_step_in-requires-clause-found c = found c.self.inside.lives c.self.invariant.1.apart c.self.invariant.2
