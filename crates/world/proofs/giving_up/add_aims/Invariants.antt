use Rattle.std.proofs.Common.{◌≡◌, ◌++◌, drop}
use Rattle.std.specs.List.{filter_map}
use Rattle.world.specs.Retiring.{text_aim}
use Rattle.world.proofs.giving_up.add_aims.Given as goal

abbrev pub invariant-loop-call : goal.invariant-loop-call
invariant-loop-call l = l.found.items ++ filter_map (text_aim l.text l.past) (drop l.call-index l.calls) ≡ l.fn.found.items ++ filter_map (text_aim l.text l.past) l.calls
