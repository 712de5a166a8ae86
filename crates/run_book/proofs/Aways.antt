-- The flags of the harts that are away.
use Rattle.std.proofs.Common.{◌≡◌, ◌≢◌, ℕ, zero, suc, ◌+◌, ◌<◌, ◌≤◌, Bool, true, false, List, [], ◌∷◌, refl, sym, ap, ◌∙◌, arith, ◌⊎◌, inl, inr}
use Rattle.std.specs.Prelude.{◌==◌, slice_index_or, slice_set}
use Rattle.stop_gate.specs.Gates.{Gated, is_away, left, back_in, set_in, aways, AwayBelow}
use Rattle.stop_gate.proofs.Counts.{aways_at_most}

pub not_set : (b : Bool) → (b ≡ true → ⊥) → b ≡ false
not_set true f = absurd (f refl)
not_set false f = refl

pub of_another : (j k : ℕ) → j ≢ k → (j == k) ≡ false
of_another j k n = not_set (j == k) (λ e. n (grind (arith, e)))

pub same_or_other : (h k : ℕ) → (k ≡ h) ⊎ (k ≢ h)
same_or_other h k = by_test (k == h) refl
  where
    by_test : (b : Bool) → (k == h) ≡ b → (k ≡ h) ⊎ (k ≢ h)
    by_test true e = inl (grind (arith, e))
    by_test false e = inr (λ same. grind (arith, e, same))

other_flag : (bs : List Bool) (h k : ℕ) (b : Bool) → k ≢ h → slice_index_or (slice_set bs h b) k false ≡ slice_index_or bs k false
other_flag [] h k b n = refl
other_flag (c ∷ bs) zero zero b n = absurd (n refl)
other_flag (c ∷ bs) zero (suc k) b n = refl
other_flag (c ∷ bs) (suc h) zero b n = refl
other_flag (c ∷ bs) (suc h) (suc k) b n = other_flag bs h k b (λ e. n (ap suc e))

pub other_left : (g : Gated) (h k : ℕ) → k ≢ h → is_away (left h g) k ≡ is_away g k
other_left g h k n = other_flag g.away h k true n

cleared : (bs : List Bool) (h : ℕ) → slice_index_or (slice_set bs h false) h false ≡ false
cleared [] h = refl
cleared (c ∷ bs) zero = refl
cleared (c ∷ bs) (suc h) = cleared bs h

pub is_back : (g : Gated) (h : ℕ) → is_away (back_in h g) h ≡ false
is_back g h = cleared g.away h

pub still_away : (g : Gated) (h k : ℕ) → is_away (back_in h g) k ≡ true → is_away g k ≡ true
still_away g h k away =
    elim (same_or_other h k) [
      | inl e ↦ (let clash : true ≡ false = sym away ∙ ap (is_away (back_in h g)) e ∙ is_back g h in absurd (cc))
      | inr n ↦ sym (other_flag g.away h k false n) ∙ away
    ]

-- a hart that was made and is here leaves room for one more
one_spare : (bs : List Bool) (n h : ℕ) → ((k : ℕ) → slice_index_or bs k false ≡ true → k < n) → h < n → slice_index_or bs h false ≡ false → set_in bs + 1 ≤ n
one_spare [] n h below lt here = omega (arith, lt)
one_spare (b ∷ bs) zero h below lt here = absurd (omega (arith, lt))
one_spare (true ∷ bs) (suc n) zero below lt here = absurd (cc)
one_spare (false ∷ bs) (suc n) zero below lt here =
    let rest = aways_at_most n (record { away = bs; wanted = false }) (λ k e. (let q = below (suc k) e in omega (arith, q))) in omega (arith, rest)
one_spare (true ∷ bs) (suc n) (suc h) below lt here = let rest = one_spare bs n h (λ k e. (let q = below (suc k) e in omega (arith, q))) (omega (arith, lt)) here in omega (arith, rest)
one_spare (false ∷ bs) (suc n) (suc h) below lt here = let rest = one_spare bs n h (λ k e. (let q = below (suc k) e in omega (arith, q))) (omega (arith, lt)) here in omega (arith, rest)

pub room_for_one : (g : Gated) (n h : ℕ) → AwayBelow n g → h < n → is_away g h ≡ false → aways g + 1 ≤ n
room_for_one g n h below lt here = one_spare g.away n h below lt here
