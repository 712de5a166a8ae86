use Rattle.std.specs.Prelude.{AllPairs}
use Rattle.layout.specs.Apart.{LieApart}
use Rattle.retire_cases.proofs.retire_tests.layouts_of.Given as goal

abbrev pub invariant-loop-text : goal.invariant-loop-text
invariant-loop-text l = AllPairs LieApart l.lives.items
