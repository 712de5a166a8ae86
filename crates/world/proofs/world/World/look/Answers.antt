use Rattle.world.proofs.Found.{found}
use Rattle.world.proofs.world.World.look.Goals as goal

pub look_in-requires : goal.look_in-requires
look_in-requires c = found c.self.inside.lives c.self.invariant.1.apart c.self.invariant.2
