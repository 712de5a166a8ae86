use Rattle.std.proofs.Common.{◌≡◌, ℕ, ◌<◌, ◌%◌, false}
use Rattle.stop_gate.specs.Gates.{is_away}
use Rattle.run_book.proofs.next.has_out.Given as goal

abbrev pub invariant-loop-h : goal.invariant-loop-h
invariant-loop-h l = (j : ℕ) → j < l.h → j % l.workers ≡ l.worker → is_away l.recorder.gate j ≡ false
