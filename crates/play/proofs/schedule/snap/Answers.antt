use Rattle.play.proofs.Attempted.{snaps_as}
use Rattle.play.proofs.schedule.snap.Goals as goal

pub returns : goal.returns
returns c = snaps_as c.args.world.now c.snap.new.self c.snap.result c.snap.ensures.is
