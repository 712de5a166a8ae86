use Rattle.run_book.proofs.Parts.{part_ended}
use Rattle.run_book.proofs.turn.turn.Goals as goal

pub returns-clause-part : goal.returns-clause-part
returns-clause-part c w ended room begun =
    part_ended c.steps-turned.result.made c.args.h w c.steps-turned.new.world c.end_visit.new.self ended (c.steps-turned.ensures.part w ended room begun) c.end_visit.ensures.is
