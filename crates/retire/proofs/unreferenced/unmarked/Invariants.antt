use Rattle.retire.specs.Marks.{AreUnmarked}
use Rattle.retire.proofs.unreferenced.unmarked.Given as goal

abbrev pub invariant-loop-k : goal.invariant-loop-k
invariant-loop-k l = AreUnmarked l.marked l.k l.positions.items
