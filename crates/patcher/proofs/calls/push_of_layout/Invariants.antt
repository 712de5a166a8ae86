use Rattle.std.proofs.Common.{◌≡◌, ◌++◌, drop}
use Rattle.std.specs.List.{filter_map}
use Rattle.std.specs.Option.{option_copied}
use Rattle.patcher.specs.Goals.{goal_in}
use Rattle.patcher.specs.Calls.{call_of}
use Rattle.patcher.proofs.calls.push_of_layout.Given as goal

abbrev pub invariant-loop-s : goal.invariant-loop-s
invariant-loop-s l =
    l.calls.items ++ filter_map (call_of (goal_in l.aims.image.now (option_copied l.aims.new) l.layout) 0) (drop l.s-index l.list)
    ≡ l.fn.calls.items ++ filter_map (call_of (goal_in l.aims.image.now (option_copied l.aims.new) l.layout) 0) l.list
