use Rattle.std.proofs.Common.{◌+◌, get_or, arith, rules}
use Rattle.std.proofs.lemmas.List.Sorted.{answers_always}
use Rattle.place_blocks.specs.Gains.{MayPrecede}
use Rattle.place_blocks.proofs.Rises.{all_pairs}
use Rattle.place_blocks.proofs.Sorting.{edges_sorted, edges_on}
use Rattle.place_blocks.proofs.weigh.sort.Goals as goal

pub returns-clause-sorted : goal.returns-clause-sorted
returns-clause-sorted c =
    all_pairs MayPrecede edges_on c.sort_unstable_by_key.new.self.items
    (λ k d lt. edges_sorted (get_or c.sort_unstable_by_key.new.self.items k d) (get_or c.sort_unstable_by_key.new.self.items (k + 1) d)
    (c.sort_unstable_by_key.ensures.sorted (λ e. (record { 0 = e.weight }, e.from, e.to)) (answers_always _ _ _ (λ f a r g h. search rules)) k d (omega arith) lt))
