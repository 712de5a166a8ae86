use Rattle.std.proofs.Common.{◌≡◌, ◌++◌, drop}
use Rattle.blocks.specs.Reaches.{reaches}
use Rattle.blocks.proofs.index.reaches_of.Given as goal

abbrev pub invariant-loop-f : goal.invariant-loop-f
invariant-loop-f l = l.all.items ++ reaches l.far (drop l.f-index l.funcs) ≡ reaches 0 l.funcs
