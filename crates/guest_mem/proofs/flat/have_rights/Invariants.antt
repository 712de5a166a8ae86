use Rattle.std.proofs.Common.{◌≡◌, true}
use Rattle.finite.specs.Maps.{contains_all}
use Rattle.guest_mem.specs.Flat.{flat_rights, gives}
use Rattle.guest_mem.proofs.flat.have_rights.Given as goal

abbrev pub invariant-loop-k : goal.invariant-loop-k
invariant-loop-k l = contains_all (flat_rights (gives l.right) l.rights.items) l.at l.k ≡ true
