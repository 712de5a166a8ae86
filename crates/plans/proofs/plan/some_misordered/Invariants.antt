use Rattle.std.proofs.Common.{◌≡◌, false, take}
use Rattle.std.specs.List.{list_any}
use Rattle.plans.specs.Given.{is_misordered}
use Rattle.plans.proofs.plan.some_misordered.Given as goal

abbrev pub invariant-loop-m : goal.invariant-loop-m
invariant-loop-m l = list_any (is_misordered l.image) (take l.m-index l.parts) ≡ false
