use Rattle.std.proofs.Common.{◌≡◌, ◌++◌, drop}
use Rattle.std.specs.List.{filter_map}
use Rattle.world.specs.Retiring.{link_number}
use Rattle.world.proofs.giving_up.add_numbers.Given as goal

abbrev pub invariant-loop-k : goal.invariant-loop-k
invariant-loop-k l = l.found.items ++ filter_map link_number (drop l.k l.regs) ≡ l.fn.found.items ++ filter_map link_number (drop 1 l.regs)
