use Rattle.std.proofs.Common.{refl}
use Rattle.delivered.specs.Deliveries.{delivery_of}
use Rattle.delivered.proofs.Headlined.{headline_of}
use Rattle.delivered.proofs.WorldLaws.{laws, one_result}
use Rattle.delivered.proofs.laws.headline_law.Goals as goal

pub returns : goal.returns
returns c = λ image events ring input harts world unended shown kept plays.
    headline_of laws (one_result c.one_plan.ensures) image events ring input kept harts world plays unended shown (delivery_of unended shown world) refl
