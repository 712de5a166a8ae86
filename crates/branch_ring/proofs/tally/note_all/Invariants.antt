use Rattle.std.proofs.Common.{◌≡◌, ℕ, take}
use Rattle.branch_ring.specs.Profiles.{times}
use Rattle.branch_ring.specs.Tallies.{count_at, with_more}
use Rattle.branch_ring.proofs.tally.note_all.Given as goal

abbrev pub invariant-loop-i : goal.invariant-loop-i
invariant-loop-i l = (from to : ℕ) → count_at l.tally from to ≡ with_more (count_at l.initial.tally from to) (times (take l.i l.ring.pairs) from to)
