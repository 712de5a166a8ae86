-- The second words of pairs, found by their first.
use Rattle.std.proofs.Common.{◌≡◌, ℕ, ◌+◌, ◌-◌, ◌<◌, ◌≤◌, false, List, Option, ◌∙◌, arith}
use Rattle.std.specs.Prelude.{◌==◌, is_some}
use Rattle.std.specs.List.{position}
use Rattle.std.proofs.lemmas.Bool.Decides.{nat_tests}
use Rattle.std.proofs.lemmas.List.Folds.{list_any_none}
use Rattle.std.proofs.lemmas.Bool.{ne_eqb}
use Rattle.finite.proofs.Finding.{any_position, list_any_same}
use Rattle.image.specs.declared.ranges.Aim.{Aim}
use Rattle.image.specs.Aims.{aim_place}
use Rattle.image.specs.Picture.{is_second}

same_test : (s a : ℕ) → 4 ≤ a → (s == a - 4) ≡ (s + 4 == a)
same_test s a le = grind (arith, nat_tests)

pub four_past : (pairs : List Aim) (a : ℕ) (o : Option ℕ) → 4 ≤ a → o ≡ position (λ s. aim_place s == a - 4) pairs → is_some o ≡ is_second pairs a
four_past pairs a o le e = any_position (λ s. aim_place s == a - 4) pairs o e ∙ list_any_same (λ s. aim_place s == a - 4) (λ s. s.at + 4 == a) pairs (λ s. same_test s.at a le)

pub none_below : (pairs : List Aim) (a : ℕ) → a < 4 → is_second pairs a ≡ false
none_below pairs a lt = list_any_none (λ s. s.at + 4 == a) pairs (λ k d h. ne_eqb _ _ (λ e. omega arith))
