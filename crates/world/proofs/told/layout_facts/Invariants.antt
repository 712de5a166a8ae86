use Rattle.std.proofs.Common.{◌≡◌, ◌++◌, drop}
use Rattle.world.specs.Told.{layout_facts}
use Rattle.world.proofs.told.layout_facts.Given as goal

abbrev pub invariant-loop-i : goal.invariant-loop-i
invariant-loop-i l = l.all.items ++ layout_facts (drop l.i l.numbers) (drop l.i l.lives) ≡ layout_facts l.numbers l.lives
