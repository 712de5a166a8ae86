use Rattle.std.proofs.Common.{◌≡◌, ◌+◌, ◌-◌, ◌*◌, min, true}
use Rattle.guest_mem.specs.Memory.{with_right}
use Rattle.finite.specs.Maps.{contains_all}
use Rattle.guest_mem.proofs.access.all_have_right.Given as goal

abbrev pub invariant-loop-w : goal.invariant-loop-w
invariant-loop-w g l = contains_all (with_right (g.S.WordStore.contents l.store) l.right) l.at (min (8 * l.w) (l.at + l.n) - l.at) ≡ true
