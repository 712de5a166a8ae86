use Rattle.std.proofs.Common.{subst}
use Rattle.world.specs.Worlds.{Replaced}
use Rattle.delivered.specs.Events.{Played}
use Rattle.play.proofs.schedule.perform.Goals as goal

pub returns : goal.returns
returns c = subst (λ (w : Replaced). Played c.args.events.now w c.obey_all.new.world) c.in_ok-world.ensures.is c.in_ok-obey_all.ensures
