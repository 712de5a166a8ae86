use Rattle.std.proofs.Common.{◌≡◌, map, take}
use Rattle.plans.specs.Plans.{moved_func}
use Rattle.plans.proofs.plan.funcs_of.Given as goal

abbrev pub invariant-loop-m : goal.invariant-loop-m
invariant-loop-m l = l.funcs.items ≡ map moved_func (take l.m-index l.parts)
