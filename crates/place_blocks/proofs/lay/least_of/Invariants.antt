use Rattle.std.proofs.Common.{◌≡◌, ◌≤◌, take}
use Rattle.place_blocks.specs.Orders.{least}
use Rattle.place_blocks.proofs.lay.least_of.Given as goal

abbrev pub invariant-loop-i : goal.invariant-loop-i
invariant-loop-i l = record { some : 1 ≤ l.i; is : l.least ≡ least (take l.i l.chain) }
