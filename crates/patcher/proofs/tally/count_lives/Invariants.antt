use Rattle.std.proofs.Common.{take}
use Rattle.std.specs.Option.{option_copied}
use Rattle.patcher.specs.Calls.{EachTally, EachOut, IsLeastOut}
use Rattle.patcher.proofs.tally.count_lives.Given as goal

abbrev pub invariant-loop-layout : goal.invariant-loop-layout
invariant-loop-layout l = record {
  each : EachTally l.aims.image.now (option_copied l.aims.new) (take l.layout-index l.lives) l.all.lists.items;
  least : IsLeastOut (EachOut l.aims.image.now (option_copied l.aims.new) (take l.layout-index l.lives)) l.all.out;
}
