use Rattle.world.proofs.RelatedAgain.{replaces_sound, replaces_related}
use Rattle.world.proofs.laws.replacement_law.Goals as goal

pub returns-clause-sound : goal.returns-clause-sound
returns-clause-sound c = replaces_sound

pub returns-clause-follows : goal.returns-clause-follows
returns-clause-follows c = replaces_related
