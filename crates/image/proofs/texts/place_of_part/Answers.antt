use Rattle.finite.proofs.Finding.{position_holds}
use Rattle.image.specs.Aims.{covers_part}
use Rattle.image.proofs.texts.place_of_part.Goals as goal

pub returns-clause-covers : goal.returns-clause-covers
returns-clause-covers c = position_holds (covers_part c.args.at) c.args.parts.now c.place_covering.result c.place_covering.ensures.place
