use Rattle.std.proofs.Common.{◌≡◌, ◌++◌, [], drop}
use Rattle.std.specs.Ordering.{nat_cmp}
use Rattle.std.specs.BTreeSet.{contains}
use Rattle.blocks.specs.Blocks.{cut}
use Rattle.blocks.proofs.cut.cut.Given as goal

abbrev pub invariant-loop-i : goal.invariant-loop-i
invariant-loop-i l = l.runs.items ++ cut (contains nat_cmp l.starts) l.so_far.items (drop l.i l.words) ≡ cut (contains nat_cmp l.starts) [] l.words
