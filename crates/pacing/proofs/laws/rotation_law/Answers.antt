use Rattle.pacing.proofs.Rotation.{none_above, none_below}
use Rattle.pacing.proofs.laws.rotation_law.Goals as goal

pub returns : goal.returns
returns _ = record { above = none_above; below = none_below }
