use Rattle.std.proofs.Common.{◌≡◌, ◌++◌, map}
use Rattle.place_funcs.specs.Links.{links_of, second_name}
use Rattle.place_funcs.proofs.merge.neighbours.Given as goal

abbrev pub invariant-loop-pair : goal.invariant-loop-pair
invariant-loop-pair l = l.names.items ++ map second_name l.pair-iterator ≡ map second_name (links_of l.name l.links.entries)
