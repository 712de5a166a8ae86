use Rattle.std.proofs.Common.{◌≡◌}
use Rattle.finite.specs.Maps.{contains}
use Rattle.std.specs.VecDeque.Iter.{deque_iter_rest}
use Rattle.guest_mem.specs.Flat.{flat_rights, gives}
use Rattle.guest_mem.proofs.flat.has_right.Given as goal

abbrev pub invariant-loop-span : goal.invariant-loop-span
invariant-loop-span l =
    contains (flat_rights (gives l.right) l.rights.items) l.at ≡ contains (flat_rights (gives l.right) (deque_iter_rest l.span-iterator)) l.at
