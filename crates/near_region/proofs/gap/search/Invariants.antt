use Rattle.near_region.specs.Pages.{IsSearched}
use Rattle.near_region.proofs.gap.search.Given as goal

abbrev pub invariant-loop-p : goal.invariant-loop-p
invariant-loop-p l = IsSearched l.taken l.first l.p l.found
