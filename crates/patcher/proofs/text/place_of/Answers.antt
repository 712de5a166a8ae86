use Rattle.finite.proofs.Finding.{position_holds}
use Rattle.image.specs.Texts.{covers}
use Rattle.patcher.proofs.text.place_of.Goals as goal

pub returns-clause-covers : goal.returns-clause-covers
returns-clause-covers c = position_holds (covers c.args.at) c.args.sections.now c.place_near.result c.place_near.ensures.place
