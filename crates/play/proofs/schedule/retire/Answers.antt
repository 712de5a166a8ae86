use Rattle.play.proofs.Attempted.{retires}
use Rattle.play.proofs.schedule.retire.Goals as goal

pub returns : goal.returns
returns c = retires c.args.world.now c.retire.new.self _ c.in_ok-retire.ensures.is
