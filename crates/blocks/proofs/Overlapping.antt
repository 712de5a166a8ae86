-- The least other function that shares an address with one, by how far functions reach.
use Rattle.std.proofs.Common.{◌≡◌, ℕ, zero, suc, ◌+◌, ◌<◌, ◌≤◌, true, false, List, [], ◌∷◌, length, get_or, refl, sym, ap, ◌∙◌, subst, inl, inr, arith}
use Rattle.std.specs.Prelude.{Some, None, max, position, slice_get, All, AllPairs}
use Rattle.std.specs.List.{AllWithin}
use Rattle.std.proofs.lemmas.Bool.{cases_order}
use Rattle.std.proofs.lemmas.Bool.Decides.{nat_tests}
use Rattle.std.proofs.lemmas.List.Sums.{position_or_len_is}
use Rattle.std.proofs.lemmas.Option.{slice_get_within, get_or_from_slice_get}
use Rattle.finite.proofs.Searching.{at_place, nowhere}
use Rattle.image.specs.declared.ranges.Func.{Func}
use Rattle.blocks.specs.declared.index.Reach.{Reach}
use Rattle.blocks.specs.Faults.{overlaps}
use Rattle.blocks.specs.Reaches.{reaches}

-- ---- reaches
pub reaches_length : (far : ℕ) (fs : List Func) → length (reaches far fs) ≡ length fs
reaches_length far [] = refl
reaches_length far (f ∷ fs) = ap suc (reaches_length (max far f.to) fs)

reach_from : (far : ℕ) (fs : List Func) (k : ℕ) (d : Reach) → k < length fs → far ≤ (get_or (reaches far fs) k d).to
reach_from far [] k d l = absurd (omega (arith, l))
reach_from far (f ∷ fs) zero d l = omega arith
reach_from far (f ∷ fs) (suc k) d l = let h = reach_from (max far f.to) fs k d (omega (arith, l)) in omega (arith, h)

pub reaches_rise : (far : ℕ) (fs : List Func) (i j : ℕ) (d : Reach) → i ≤ j → j < length fs → (get_or (reaches far fs) i d).to ≤ (get_or (reaches far fs) j d).to
reaches_rise far [] i j d le l = absurd (omega (arith, l))
reaches_rise far (f ∷ fs) zero zero d le l = omega arith
reaches_rise far (f ∷ fs) zero (suc j) d le l = reach_from (max far f.to) fs j d (omega (arith, l))
reaches_rise far (f ∷ fs) (suc i) zero d le l = absurd (omega (arith, le))
reaches_rise far (f ∷ fs) (suc i) (suc j) d le l = reaches_rise (max far f.to) fs i j d (omega (arith, le)) (omega (arith, l))

reach_past : (far : ℕ) (fs : List Func) (k : ℕ) (d : Reach) (e : Func) → k < length fs → (get_or fs k e).to ≤ (get_or (reaches far fs) k d).to
reach_past far [] k d e l = absurd (omega (arith, l))
reach_past far (f ∷ fs) zero d e l = omega arith
reach_past far (f ∷ fs) (suc k) d e l = reach_past (max far f.to) fs k d e (omega (arith, l))

-- the first that reaches past a number does so by its own end
reach_first : (far a : ℕ) (fs : List Func) (i : ℕ) (d : Reach) (e : Func) → far ≤ a → i < length fs → ((k : ℕ) → k < i → (get_or (reaches far fs) k d).to ≤ a)
    → a < (get_or (reaches far fs) i d).to → a < (get_or fs i e).to
reach_first far a [] i d e le l before past = absurd (omega (arith, l))
reach_first far a (f ∷ fs) zero d e le l before past = omega (arith, le, past)
reach_first far a (f ∷ fs) (suc i) d e le l before past =
    reach_first (max far f.to) a fs i d e (before zero (omega arith)) (omega (arith, l)) (λ k h. before (suc k) (omega (arith, h))) past

-- ---- the test
no_end : (f g : Func) → g.to ≤ f.from → overlaps f g ≡ false
no_end f g h = grind (arith, nat_tests, h)

no_start : (f g : Func) → f.to ≤ g.from → overlaps f g ≡ false
no_start f g h = grind (arith, nat_tests, h)

no_self : (f g : Func) → g.from ≡ f.from → overlaps f g ≡ false
no_self f g h = grind (arith, nat_tests, h)

is_before : (f g : Func) → g.from < f.from → f.from < f.to → f.from < g.to → overlaps f g ≡ true
is_before f g h some l = grind (arith, nat_tests, h, some, l)

is_after : (f g : Func) → f.from < g.from → g.from < f.to → g.from < g.to → overlaps f g ≡ true
is_after f g h l some = grind (arith, nat_tests, h, l, some)

-- ---- function n of these, which is f, and the place i of the first that reaches past its start
module _ (fs : List Func) (all : List Reach) (n : ℕ) (f : Func) (i : ℕ) (rise : AllPairs (λ (g h : Func). g.from < h.from) fs) (filled : All (λ (g : Func). g.from < g.to) fs)
    (is : all ≡ reaches 0 fs) (there : slice_get fs n ≡ Some f) (within : i ≤ length all) (up_to : AllWithin (λ (r : Reach). r.to ≤ f.from) all 0 i)
    (others : AllWithin (λ (r : Reach). f.from < r.to) all i (length all)) where
  size : length all ≡ length fs
  size = ap length is ∙ reaches_length 0 fs

  n_in : n < length fs
  n_in = slice_get_within fs n f there

  at_n : get_or fs n f ≡ f
  at_n = get_or_from_slice_get fs n f f there

  some : f.from < f.to
  some = subst (λ (g : Func). g.from < g.to) at_n (filled n f n_in)

  abbrev none : Reach
  none = record { to = 0 }

  before_i : (k : ℕ) → k < i → (get_or (reaches 0 fs) k none).to ≤ f.from
  before_i k l = subst (λ (rs : List Reach). (get_or rs k none).to ≤ f.from) is (up_to k none (omega arith) l)

  at_i : i < length fs → f.from < (get_or fs i f).to
  at_i l = reach_first 0 f.from fs i none f (omega arith) l before_i (subst (λ (rs : List Reach). f.from < (get_or rs i none).to) is (others i none (omega arith) (omega (arith, l, size))))

  -- those before reach no farther than its start
  no_earlier : (k : ℕ) → k < i → k < length fs → overlaps f (get_or fs k f) ≡ false
  no_earlier k l h = let p = reach_past 0 fs k none f h in let q = before_i k l in no_end f (get_or fs k f) (omega (arith, p, q))

  before_n : (k : ℕ) → k < n → (get_or fs k f).from < f.from
  before_n k l = subst (λ (g : Func). (get_or fs k f).from < g.from) at_n (rise k n f l n_in)

  after_n : (k : ℕ) → n < k → k < length fs → f.from < (get_or fs k f).from
  after_n k l h = subst (λ (g : Func). g.from < (get_or fs k f).from) at_n (rise n k f l h)

  found : (k : ℕ) → k < length fs → ((j : ℕ) → j < k → overlaps f (get_or fs j f) ≡ false) → overlaps f (get_or fs k f) ≡ true → Some k ≡ position (overlaps f) fs
  found k l earlier here = sym (at_place (overlaps f) fs k (position_or_len_is (overlaps f) fs k f (omega (arith, l)) earlier (λ h. here)) l)

  pub one_before : i < n → Some i ≡ position (overlaps f) fs
  one_before l =
      let h : i < length fs = omega (arith, l, n_in) in
      found i h (λ k q. no_earlier k q (omega (arith, q, h))) (is_before f (get_or fs i f) (before_n i l) some (at_i h))

  pub before_within : i < n → i < length fs
  before_within l = omega (arith, l, n_in)

  -- where none before it overlaps
  module _ (up : n ≤ i) where
    up_to_n : (k : ℕ) → k < n + 1 → overlaps f (get_or fs k f) ≡ false
    up_to_n k l =
        elim (cases_order k n) [
          | inl same ↦ no_self f (get_or fs k f) (ap (λ (g : Func). g.from) (ap (λ j. get_or fs j f) same ∙ at_n))
          | inr (inl q) ↦ no_earlier k (omega (arith, q, up)) (omega (arith, q, n_in))
          | inr (inr q) ↦ absurd (omega (arith, q, l))
        ]

    pub one_after : n + 1 < length fs → (get_or fs (n + 1) f).from < f.to → Some (n + 1) ≡ position (overlaps f) fs
    one_after l h = found (n + 1) l up_to_n (is_after f (get_or fs (n + 1) f) (after_n (n + 1) (omega arith) l) h (filled (n + 1) f l))

    none_by : ((k : ℕ) → n < k → k < length fs → overlaps f (get_or fs k f) ≡ false) → None ≡ position (overlaps f) fs
    none_by later = sym (nowhere (overlaps f) fs (position_or_len_is (overlaps f) fs (length fs) f (omega arith) each (λ h. absurd (omega (arith, h)))))
      where
        each : (k : ℕ) → k < length fs → overlaps f (get_or fs k f) ≡ false
        each k l =
            elim (cases_order k n) [
              | inl same ↦ up_to_n k (omega (arith, same))
              | inr (inl q) ↦ up_to_n k (omega (arith, q))
              | inr (inr q) ↦ later k q l
            ]

    pub none_after : (n + 1 < length fs → f.to ≤ (get_or fs (n + 1) f).from) → None ≡ position (overlaps f) fs
    none_after h = none_by (λ k l q. no_start f (get_or fs k f) (far k l q))
      where
        far : (k : ℕ) → n < k → k < length fs → f.to ≤ (get_or fs k f).from
        far k l q =
            let next = h (omega (arith, l, q)) in
            elim (cases_order (n + 1) k) [
              | inl same ↦ subst (λ j. f.to ≤ (get_or fs j f).from) same next
              | inr (inl r) ↦ (let up = rise (n + 1) k f r q in omega (arith, next, up))
              | inr (inr r) ↦ absurd (omega (arith, r, l))
            ]
