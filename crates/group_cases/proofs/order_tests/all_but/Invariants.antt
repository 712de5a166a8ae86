use Rattle.std.proofs.Common.{◌<◌, All, AllPairs}
use Rattle.group_cases.proofs.order_tests.all_but.Given as goal

abbrev pub invariant-loop-f : goal.invariant-loop-f
invariant-loop-f l = AllPairs (λ f g. f < g) l.numbers.items × All (λ f. f < l.f) l.numbers.items
