use Rattle.std.proofs.Common.{◌≡◌, map, take}
use Rattle.place_funcs.specs.Groups.{alone}
use Rattle.place_funcs.specs.Grouping.{named}
use Rattle.place_funcs.proofs.groups.singles.Given as goal

abbrev pub invariant-loop-f : goal.invariant-loop-f
invariant-loop-f l = l.groups.entries ≡ map named (map alone (take l.f-index l.functions))
