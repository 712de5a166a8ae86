use Rattle.std.proofs.Common.{◌≡◌}
use Rattle.play.specs.Generated.{rounds}
use Rattle.play.proofs.generated.guest_events.Given as goal

abbrev pub invariant-loop-round : goal.invariant-loop-round
invariant-loop-round l = l.events ≡ rounds l._round l.count
