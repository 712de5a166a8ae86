use Rattle.std.proofs.Common.{rules}
use Rattle.std.proofs.lemmas.List.Sorted.{IsNonDecreasingBy-from_sort_by_key}
use Rattle.image.specs.Texts.{text_start}
use Rattle.relocs.proofs.texts.sort_texts.Goals as goal

pub returns-clause-sorted : goal.returns-clause-sorted
returns-clause-sorted c = IsNonDecreasingBy-from_sort_by_key text_start _ c.sort_unstable_by_key.ensures.sorted (λ a r q k. search rules)
