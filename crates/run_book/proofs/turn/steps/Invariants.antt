use Rattle.std.proofs.Common.{◌≡◌, ◌+◌, ◌<◌, ◌^◌, true, false}
use Rattle.recorder.specs.Recording.{Recorded}
use Rattle.run_book.specs.Visits.{IsPart}
use Rattle.run_book.proofs.turn.steps.Given as goal

abbrev pub invariant-loop-made : goal.invariant-loop-made
invariant-loop-made l = ((w : Recorded) → w.journal.is_open ≡ false → w.at.counts.real + 64 < 2 ^ 64 → IsPart true l.from l.h w l.fn.world → IsPart true l.made l.h w l.world) × (l.world.gate ≡ l.fn.world.gate)
