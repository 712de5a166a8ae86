use Rattle.std.proofs.Common.{◌≡◌, ◌++◌, map}
use Rattle.branch_ring.specs.Tallies.{entry_of}
use Rattle.branch_ring.proofs.tally.listed.Given as goal

abbrev pub invariant-loop-pair : goal.invariant-loop-pair
invariant-loop-pair l = map entry_of l.all.items ++ l.pair-iterator ≡ l.tally.entries
