use Rattle.world.proofs.Private.{none_first, one_first, two_first}
use Rattle.world.proofs.laws.real_step_law.Goals as goal

pub returns-clause-none : goal.returns-clause-none
returns-clause-none c = none_first

pub returns-clause-one : goal.returns-clause-one
returns-clause-one c = one_first

pub returns-clause-two : goal.returns-clause-two
returns-clause-two c = two_first
