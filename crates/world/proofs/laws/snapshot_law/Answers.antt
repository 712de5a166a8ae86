use Rattle.world.proofs.Snapping.{snaps_sound, snaps_related}
use Rattle.world.proofs.laws.snapshot_law.Goals as goal

pub returns-clause-sound : goal.returns-clause-sound
returns-clause-sound c = snaps_sound

pub returns-clause-follows : goal.returns-clause-follows
returns-clause-follows c = snaps_related
