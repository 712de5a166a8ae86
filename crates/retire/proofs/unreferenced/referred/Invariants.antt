use Rattle.std.proofs.Common.{◌++◌}
use Rattle.retire.specs.Marks.{left_of, IsClosing}
use Rattle.retire.proofs.unreferenced.referred.Given as goal

abbrev pub decreases-loop-k : goal.decreases-loop-k
decreases-loop-k l = left_of l.marks

abbrev pub invariant-loop-k : goal.invariant-loop-k
invariant-loop-k l = IsClosing l.index.lives.now (l.fn.pcs ++ l.fn.links ++ l.fn.aims) l.marks
