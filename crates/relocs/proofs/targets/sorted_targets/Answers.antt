use Rattle.std.proofs.Common.{ℕ}
use Rattle.std.proofs.lemmas.List.Sorted.{IsNonDecreasingBy-from_sort}
use Rattle.relocs.proofs.RuleLemmas.{among_targets}
use Rattle.relocs.proofs.targets.sorted_targets.Goals as goal

pub returns-clause-sorted : goal.returns-clause-sorted
returns-clause-sorted c = IsNonDecreasingBy-from_sort (λ (x : ℕ). x) _ c.sort_unstable.ensures.sorted

pub returns-clause-same : goal.returns-clause-same
returns-clause-same c = λ a. among_targets c.args.texts.now c.in_ok-all.all.items c.sort_unstable.new.self.items a c.in_ok-all.ensures c.sort_unstable.ensures.permutation
