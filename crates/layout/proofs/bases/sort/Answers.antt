use Rattle.std.proofs.Common.{rules}
use Rattle.std.proofs.lemmas.List.Sorted.{IsNonDecreasingBy-from_sort_by_key}
use Rattle.layout.specs.Bases.{base_of}
use Rattle.layout.proofs.bases.sort.Goals as goal

pub returns-clause-rises : goal.returns-clause-rises
returns-clause-rises c = IsNonDecreasingBy-from_sort_by_key base_of _ c.sort_unstable_by_key.ensures.sorted (λ a r q k. search rules)
