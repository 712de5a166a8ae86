use Rattle.std.proofs.Common.{sym, ◌∙◌}
use Rattle.world.proofs.Lives.{found_there}
use Rattle.world.proofs.points.live_both.Goals as goal

pub returns-in-Some : goal.returns-in-Some
returns-in-Some c =
    found_there c.args.lives.now c.deref.result.now c.args.recent.now c.args.at c.in-Some.found c.requires c.deref.ensures.value (sym c.both_at.ensures ∙ c.in-Some.is)
