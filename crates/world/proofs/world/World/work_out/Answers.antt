use Rattle.std.proofs.Common.{subst}
use Rattle.std.specs.Prelude.{IfErr}
use Rattle.world.specs.Worlds.{Replaced}
use Rattle.world.specs.Replacing.{Refuses}
use Rattle.world.proofs.Found.{found}
use Rattle.world.proofs.world.World.work_out.Goals as goal

pub place-requires-clause-found : goal.place-requires-clause-found
place-requires-clause-found c = found c.self.inside.lives c.self.invariant.1.apart c.self.invariant.2

pub returns-clause-refused : goal.returns-clause-refused
returns-clause-refused c = subst (λ (x : Replaced). IfErr c.place.result (Refuses x.image x.lives x.free c.args.plan.now)) c.self.view_is c.place.ensures.refused
