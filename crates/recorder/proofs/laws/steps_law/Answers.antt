use Rattle.recorder.proofs.Counting.{first_noted, further_noted}
use Rattle.recorder.proofs.laws.steps_law.Goals as goal

pub returns-clause-first : goal.returns-clause-first
returns-clause-first c = first_noted

pub returns-clause-further : goal.returns-clause-further
returns-clause-further c = further_noted
