use Rattle.pacing.proofs.Visits.{makes_more, makes_some, was_made}
use Rattle.pacing.proofs.laws.visit_law.Goals as goal

pub returns : goal.returns
returns _ = record { more = makes_more; some = makes_some; made = was_made }
