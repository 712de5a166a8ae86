use Rattle.std.proofs.Common.{take}
use Rattle.patcher.specs.Calls.{IsTally}
use Rattle.patcher.proofs.tally.count.Given as goal

abbrev pub invariant-loop-call : goal.invariant-loop-call
invariant-loop-call l = IsTally (take l.call-index l.calls) l.noted.patches.items l.noted.out
