use Rattle.finite.proofs.Finding.{position_holds}
use Rattle.image.specs.Texts.{covers}
use Rattle.image.proofs.texts.place_of_text.Goals as goal

pub returns-clause-covers : goal.returns-clause-covers
returns-clause-covers c = position_holds (covers c.args.at) c.args.texts.now c.place_covering.result c.place_covering.ensures.place
