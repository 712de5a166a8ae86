-- Calls of an image, found by their addresses.
use Rattle.std.proofs.Common.{◌≡◌, ℕ, ◌+◌, ◌-◌, ◌<◌, ◌≤◌, Bool, List, None, ap, arith}
use Rattle.std.specs.Prelude.{◌==◌, find}
use Rattle.std.specs.Option.{option_map}
use Rattle.std.proofs.lemmas.Bool.Decides.{nat_tests}
use Rattle.std.proofs.lemmas.Bool.{ne_eqb}
use Rattle.finite.proofs.Finding.{find_fails}
use Rattle.image.specs.declared.ranges.Aim.{Aim}
use Rattle.image.specs.Aims.{aim_place}
use Rattle.layout.specs.Points.{aim_func}

same_test : (s a : ℕ) → 4 ≤ a → (s == a - 4) ≡ (s + 4 == a)
same_test s a le = grind (arith, nat_tests)

-- a pair's second word is 4 past its first
pub four_past : (pairs : List Aim) (a : ℕ) → 4 ≤ a → option_map aim_func (find (λ s. aim_place s == a - 4) pairs) ≡ option_map aim_func (find (λ s. aim_place s + 4 == a) pairs)
four_past pairs a le = ap (λ (p : Aim → Bool). option_map aim_func (find p pairs)) (λ i s. same_test (aim_place s) a le i)

pub none_below : (pairs : List Aim) (a : ℕ) → a < 4 → option_map aim_func (find (λ s. aim_place s + 4 == a) pairs) ≡ None
none_below pairs a lt = ap (option_map aim_func) (find_fails (λ s. aim_place s + 4 == a) pairs (λ k d h. ne_eqb _ _ (λ e. omega arith)))
