use Rattle.world.proofs.Retirement.{retires_sound, retires_related}
use Rattle.world.proofs.laws.retirement_law.Goals as goal

pub returns-clause-sound : goal.returns-clause-sound
returns-clause-sound c = retires_sound

pub returns-clause-follows : goal.returns-clause-follows
returns-clause-follows c = retires_related
