use Rattle.std.proofs.Common.{◌≡◌, ◌++◌, drop}
use Rattle.std.specs.List.{flat_map}
use Rattle.world.specs.Retiring.{register_links}
use Rattle.world.proofs.giving_up.add_hart_links.Given as goal

abbrev pub invariant-loop-h : goal.invariant-loop-h
invariant-loop-h l = l.found.items ++ flat_map register_links (drop l.h l.machine.harts) ≡ l.fn.found.items ++ flat_map register_links l.machine.harts
