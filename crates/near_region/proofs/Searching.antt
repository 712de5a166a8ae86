-- The search for the longest gap, one page on, and its end.
use Rattle.std.proofs.Common.{◌≡◌, ℕ, ◌+◌, ◌-◌, ◌<◌, ◌≤◌, ◌⊎◌, inl, inr, Bool, true, false, List, slice_get, Option, Some, None, arith, sym, subst, ◌∙◌}
use Rattle.std.proofs.lemmas.Bool.{cases_lt}
use Rattle.near_region.specs.declared.gap.Found.{Found}
use Rattle.near_region.specs.Pages.{IsGap, IsLongest, IsSearched}

abbrev found : (start from to : ℕ) → Found
found start from to = record { start = start; from = from; to = to }

abbrev IsTaken : Option Bool → Type 0
IsTaken (Some true) = Unit {0}
IsTaken _ = ⊥

clash : (o : Option Bool) → o ≡ Some true → o ≡ Some false → ⊥
clash o taken free = subst IsTaken (sym taken ∙ free) (record {})

module _ (taken : List Bool) (first p : ℕ) where
  shorter : (a b : ℕ) → IsGap taken first (p + 1) a b → b ≤ p → IsGap taken first p a b
  shorter a b g fits = record { some = g.some; low = g.low; high = fits; free = g.free }

  wider : (a b : ℕ) → IsGap taken first p a b → IsGap taken first (p + 1) a b
  wider a b g = let h = g.high in record { some = g.some; low = g.low; high = omega (arith, h); free = g.free }

  -- a gap that has page p
  ends : (a b : ℕ) → IsGap taken first (p + 1) a b → p < b → slice_get taken p ≡ Some false
  ends a b g past = let s = g.some in let h = g.high in g.free p (omega (arith, s, h, past)) past

  pub past_taken : (f : Found) → slice_get taken p ≡ Some true → IsSearched taken first p f → IsSearched taken first (p + 1) (found (p + 1) f.from f.to)
  past_taken f is s = let low = s.low in let high = s.high in let within = s.within in record {
    low = omega (arith, low, high);
    high = omega arith;
    free = λ n from to. absurd (omega (arith, from, to));
    left = λ a from to all. absurd (clash (slice_get taken p) is (all p (omega (arith, to)) (omega arith)));
    ordered = s.ordered;
    within = omega (arith, within);
    gap = λ some. wider f.from f.to (s.gap some);
    best = λ a b g. elim (cases_lt p b) [
      | inl past ↦ absurd (clash (slice_get taken p) is (ends a b g past))
      | inr fits ↦ s.best a b (shorter a b g fits)
    ];
  }

  -- the gap that has page p begins no earlier than the free pages
  starts : (f : Found) → IsSearched taken first p f → (a b : ℕ) → IsGap taken first (p + 1) a b → p < b → f.start ≤ a
  starts f s a b g past = let high = s.high in let some = g.some in let last = g.high in
      elim (cases_lt a p) [
        | inl before ↦ s.left a g.low before (λ n from to. g.free n from (omega (arith, to, past)))
        | inr at ↦ omega (arith, high, at)
      ]

  free_to : (f : Found) → slice_get taken p ≡ Some false → IsSearched taken first p f → (n : ℕ) → f.start ≤ n → n < p + 1 → slice_get taken n ≡ Some false
  free_to f is s n from to = elim (cases_lt n p) [
    | inl before ↦ s.free n from before
    | inr at ↦ (let e : p ≡ n = omega (arith, at, to) in subst (λ n. slice_get taken n ≡ Some false) e is)
  ]

  left_to : (f : Found) → IsSearched taken first p f → (a : ℕ) → first ≤ a → a < p + 1 → ((n : ℕ) → a ≤ n → n < p + 1 → slice_get taken n ≡ Some false) → f.start ≤ a
  left_to f s a from to all = let high = s.high in elim (cases_lt a p) [
    | inl before ↦ s.left a from before (λ n l h. all n l (omega (arith, h)))
    | inr at ↦ omega (arith, high, at)
  ]

  by_length : (a b c d : ℕ) → a < b → b ≤ d → c ≤ a → (b - a < d - c) ⊎ ((b - a ≡ d - c) × (c ≤ a))
  by_length a b c d some fits from = elim (cases_lt (b - a) (d - c)) [
    | inl less ↦ inl less
    | inr more ↦ inr (omega (arith, some, fits, from, more), from)
  ]

  less_than : (m k l : ℕ) (X : Type 0) → (m < k) ⊎ ((m ≡ k) × X) → k < l → m < l
  less_than m k l X (inl less) lt = omega (arith, less, lt)
  less_than m k l X (inr same) lt = let e = same.0 in omega (arith, e, lt)

  pub longer : (f : Found) → slice_get taken p ≡ Some false → IsSearched taken first p f → f.to - f.from < p + 1 - f.start → IsSearched taken first (p + 1) (found f.start f.start (p + 1))
  longer f is s more = let high = s.high in record {
    low = s.low;
    high = omega (arith, high);
    free = free_to f is s;
    left = left_to f s;
    ordered = omega (arith, high);
    within = omega arith;
    gap = λ some. record { some = some; low = s.low; high = omega arith; free = free_to f is s };
    best = λ a b g. let some = g.some in let last = g.high in elim (cases_lt p b) [
      | inl past ↦ by_length a b f.start (p + 1) some last (starts f s a b g past)
      | inr fits ↦ inl (less_than (b - a) (f.to - f.from) (p + 1 - f.start) (f.from ≤ a) (s.best a b (shorter a b g fits)) more)
    ];
  }

  as_long : (a b from to start : ℕ) → a < b → b ≤ p + 1 → start ≤ a → from ≤ to → to ≤ p → p + 1 - start ≤ to - from → p < b → (b - a < to - from) ⊎ ((b - a ≡ to - from) × (from ≤ a))
  as_long a b from to start some last low ordered within most past = elim (cases_lt (b - a) (to - from)) [
    | inl less ↦ inl less
    | inr more ↦ inr (omega (arith, some, last, low, most, more), omega (arith, some, last, low, ordered, within, most, more, past))
  ]

  pub no_longer : (f : Found) → slice_get taken p ≡ Some false → IsSearched taken first p f → p + 1 - f.start ≤ f.to - f.from → IsSearched taken first (p + 1) f
  no_longer f is s most = let high = s.high in let ordered = s.ordered in let within = s.within in record {
    low = s.low;
    high = omega (arith, high);
    free = free_to f is s;
    left = left_to f s;
    ordered = ordered;
    within = omega (arith, within);
    gap = λ some. wider f.from f.to (s.gap some);
    best = λ a b g. elim (cases_lt p b) [
      | inl past ↦ as_long a b f.from f.to f.start g.some g.high (starts f s a b g past) ordered within most past
      | inr fits ↦ s.best a b (shorter a b g fits)
    ];
  }

  pub longest : (f : Found) → IsSearched taken first p f → f.from < f.to → IsLongest taken first p (Some (f.from, f.to))
  longest f s some = (s.gap some, s.best)

  no_place : (a b from to : ℕ) → a < b → to ≤ from → (b - a < to - from) ⊎ ((b - a ≡ to - from) × (from ≤ a)) → ⊥
  no_place a b from to some empty (inl less) = omega (arith, less, empty)
  no_place a b from to some empty (inr same) = let e = same.0 in omega (arith, e, some, empty)

  pub no_gap : (f : Found) → IsSearched taken first p f → f.to ≤ f.from → IsLongest taken first p None
  no_gap f s empty = λ a b g. no_place a b f.from f.to g.some empty (s.best a b g)

pub none_yet : (taken : List Bool) (first : ℕ) → IsSearched taken first first (found first first first)
none_yet taken first = record {
  low = omega arith;
  high = omega arith;
  free = λ n from to. absurd (omega (arith, from, to));
  left = λ a from to all. from;
  ordered = omega arith;
  within = omega arith;
  gap = λ some. absurd (omega (arith, some));
  best = λ a b g. let some = g.some in let low = g.low in let high = g.high in absurd (omega (arith, some, low, high));
}
