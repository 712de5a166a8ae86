-- Pairs and slots.
use Rattle.std.proofs.Common.{◌≡◌, ℕ, List, ap, sym, ◌∙◌}
use Rattle.std.specs.Prelude.{◌==◌}
use Rattle.std.specs.List.{list_any}
use Rattle.std.specs.List.Sorted.{IsPermutation}
use Rattle.std.proofs.lemmas.List.Sorted.{list_any-IsPermutation}
use Rattle.image.specs.declared.ranges.TextRange.{TextRange}
use Rattle.image.specs.Texts.{targets, is_target}

pub among_targets : (texts : List TextRange) (all sorted : List ℕ) (a : ℕ) → all ≡ targets texts → IsPermutation all sorted → is_target texts a ≡ list_any (λ t. t == a) sorted
unfolding is_target
among_targets texts all sorted a is moved = ap (list_any (λ t. t == a)) (sym is) ∙ list_any-IsPermutation (λ t. t == a) all sorted moved
