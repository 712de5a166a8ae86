use Rattle.pacing.specs.Clocks.{zero_clock}
use Rattle.pacing.proofs.Clocked.{real_is}
use Rattle.pacing.proofs.Growing.{steps-snoc, state-snoc, clock-snoc}
use Rattle.pacing.proofs.laws.entry_law.Goals as goal

pub returns : goal.returns
returns _ = record { steps = steps-snoc; state = state-snoc; clock = clock-snoc zero_clock; reals = real_is }
