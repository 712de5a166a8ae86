use Rattle.retire.proofs.LeastSet.{no_pointer, no_call}
use Rattle.retire.proofs.laws.nothing_points_there.Goals as goal

pub returns-clause-pointers : goal.returns-clause-pointers
returns-clause-pointers c = no_pointer

pub returns-clause-calls : goal.returns-clause-calls
returns-clause-calls c = no_call
