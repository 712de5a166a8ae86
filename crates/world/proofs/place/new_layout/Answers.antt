use Rattle.world.specs.Replacing.{no_layout}
use Rattle.world.proofs.Placing.{none_unreadable}
use Rattle.world.proofs.place.new_layout.Goals as goal

pub returns-then-moves_none-clause-readable : goal.returns-then-moves_none-clause-readable
returns-then-moves_none-clause-readable c = none_unreadable c.args.image.now c.args.plan.now (c.moves_none.ensures.0 c.if-moves_none.true)

pub returns-then-moves_none-clause-is : goal.returns-then-moves_none-clause-is
returns-then-moves_none-clause-is c = no_layout (c.moves_none.ensures.0 c.if-moves_none.true)
