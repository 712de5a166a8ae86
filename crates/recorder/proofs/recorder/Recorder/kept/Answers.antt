use Rattle.std.proofs.Common.{◌≤◌, length, subst}
use Rattle.recorder.specs.Recording.{Recorded}
use Rattle.recorder.proofs.recorder.Recorder.kept.Goals as goal
use Rattle.stop_gate.specs.Gates.{aways}
use Rattle.stop_gate.proofs.Counts.{aways_at_most}

pub returns-clause-few : goal.returns-clause-few
returns-clause-few c =
    subst (λ (r : Recorded). aways r.gate ≤ length r.at.machine.harts) c.self.view_is
    (aways_at_most (length c.self.inside.world.machine.harts) c.self.inside.gate c.self.invariant.0.made)
