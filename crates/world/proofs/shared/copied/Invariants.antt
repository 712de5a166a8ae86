use Rattle.std.proofs.Common.{◌≡◌, take}
use Rattle.world.proofs.shared.copied.Given as goal

abbrev pub invariant-loop-layout : goal.invariant-loop-layout
invariant-loop-layout l = l.all.items ≡ take l.layout-index l.layouts
