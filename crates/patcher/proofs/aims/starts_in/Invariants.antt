use Rattle.std.proofs.Common.{◌≡◌, ℕ, ◌+◌, ◌*◌, ◌≤◌, drop, length}
use Rattle.std.specs.Ordering.{nat_cmp}
use Rattle.std.specs.BTreeMap.{get}
use Rattle.patcher.specs.Goals.{start_from}
use Rattle.patcher.proofs.aims.starts_in.Given as goal

abbrev pub decreases-loop-i : goal.decreases-loop-i
decreases-loop-i l = l.i

abbrev pub invariant-loop-i : goal.invariant-loop-i
invariant-loop-i l = record {
  within : l.i ≤ length l.points;
  starts : (x : ℕ) → get nat_cmp l.starts x ≡ start_from (l.base + 4 * l.i) (drop l.i l.points) x;
}
