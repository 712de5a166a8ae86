use Rattle.std.specs.List.{AllWithin}
use Rattle.layout.specs.Laid.{IsLaid}
use Rattle.patcher.proofs.laws.each_kept.Given as goal

abbrev pub invariant-loop-layout : goal.invariant-loop-layout
invariant-loop-layout l = AllWithin IsLaid l.layouts 0 l.layout-index
