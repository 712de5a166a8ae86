use Rattle.std.proofs.Common.{◌≡◌, ◌++◌, drop}
use Rattle.world.specs.Retiring.{pcs_of}
use Rattle.world.proofs.giving_up.pcs_of.Given as goal

abbrev pub invariant-loop-h : goal.invariant-loop-h
invariant-loop-h l = l.found.items ++ pcs_of (drop l.h l.machine.harts) ≡ pcs_of l.machine.harts
