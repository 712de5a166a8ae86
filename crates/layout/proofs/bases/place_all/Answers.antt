use Rattle.layout.proofs.ByBase.{sorted}
use Rattle.layout.proofs.bases.place_all.Goals as goal

pub returns-clause-are : goal.returns-clause-are
returns-clause-are c = sorted c.args.lives.now c.note_all.new.places.items c.sort.new.places.items c.note_all.ensures.items c.sort.ensures.same c.sort.ensures.rises
