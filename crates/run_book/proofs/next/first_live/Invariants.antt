use Rattle.std.proofs.Common.{◌≡◌, ℕ, ◌<◌, ◌≤◌, ◌%◌, false}
use Rattle.machine.specs.Harts.{is_live, hart_in}
use Rattle.run_book.proofs.next.first_live.Given as goal

abbrev pub invariant-loop-h : goal.invariant-loop-h
invariant-loop-h l = (j : ℕ) → l.from ≤ j → j < l.h → j % l.workers ≡ l.worker → is_live (hart_in l.world.machine.harts j).status ≡ false
