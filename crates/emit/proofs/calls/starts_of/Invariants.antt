use Rattle.std.proofs.Common.{◌≡◌, ℕ, take}
use Rattle.std.specs.Ordering.{nat_cmp}
use Rattle.std.specs.BTreeSet.{contains}
use Rattle.emit.specs.Entries.{moves}
use Rattle.emit.proofs.calls.starts_of.Given as goal

abbrev pub invariant-loop-m : goal.invariant-loop-m
invariant-loop-m l = (y : ℕ) → contains nat_cmp l.starts y ≡ moves l.image (take l.m-index l.parts) y
