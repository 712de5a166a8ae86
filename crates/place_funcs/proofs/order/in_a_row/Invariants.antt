use Rattle.std.proofs.Common.{◌≡◌, ◌++◌}
use Rattle.std.specs.List.{flat_map}
use Rattle.place_funcs.specs.Grouping.{group_of}
use Rattle.place_funcs.proofs.order.in_a_row.Given as goal

abbrev pub invariant-loop-group : goal.invariant-loop-group
invariant-loop-group l = l.order.items ++ flat_map group_of l.group-iterator ≡ flat_map group_of l.ranked.entries
