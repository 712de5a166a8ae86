use Rattle.std.proofs.Common.{◌≡◌, take}
use Rattle.place_blocks.specs.Ranks.{sum_of}
use Rattle.place_blocks.proofs.lay.heat_of.Given as goal

abbrev pub invariant-loop-i : goal.invariant-loop-i
invariant-loop-i l = l.heat ≡ sum_of l.counts (take l.i l.chain)
