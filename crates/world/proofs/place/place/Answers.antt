use Rattle.world.proofs.Placing.{reach_refuses}
use Rattle.world.proofs.place.place.Goals as goal

pub returns-in-Err-clause-refused : goal.returns-in-Err-clause-refused
returns-in-Err-clause-refused c = c.in-Err.ensures.refused c.args.lives.now.layouts.items

pub returns-in-Err-aimed-clause-refused : goal.returns-in-Err-aimed-clause-refused
returns-in-Err-aimed-clause-refused c =
    reach_refuses c.args.image.now c.args.lives.now.layouts.items c.args.region.now.free c.args.plan.now c.in-Ok.new c.in-Err-aimed.why c.in-Ok.ensures.readable c.in-Ok.ensures.is c.in-Err-aimed.ensures.refused
