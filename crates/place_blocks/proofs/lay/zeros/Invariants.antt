use Rattle.std.proofs.Common.{◌≡◌, ℕ, length, get_or}
use Rattle.place_blocks.proofs.lay.zeros.Given as goal

abbrev pub invariant-loop : goal.invariant-loop
invariant-loop l = record { size : length l.list.items ≡ l.counter; zero : (k : ℕ) → get_or l.list.items k 0 ≡ 0 }
