use Rattle.std.proofs.Common.{◌+◌, get_or, ◌==◌, not, arith, rules}
use Rattle.std.proofs.lemmas.List.Sorted.{answers_always}
use Rattle.place_blocks.specs.Ranks.{MayPrecede}
use Rattle.place_blocks.proofs.Rises.{all_pairs}
use Rattle.place_blocks.proofs.Sorting.{ranks_sorted, ranks_on}
use Rattle.place_blocks.proofs.lay.sort.Goals as goal

pub returns-clause-sorted : goal.returns-clause-sorted
returns-clause-sorted c =
    all_pairs MayPrecede ranks_on c.sort_unstable_by_key.new.self.items
    (λ k d lt. ranks_sorted (get_or c.sort_unstable_by_key.new.self.items k d) (get_or c.sort_unstable_by_key.new.self.items (k + 1) d)
    (c.sort_unstable_by_key.ensures.sorted (λ r. (not (r.least == 0), record { 0 = r.heat }, r.least)) (answers_always _ _ _ (λ f a r g h. search rules)) k d (omega arith) lt))
