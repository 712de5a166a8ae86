-- The chosen functions, and what comes of an order of them.
use Rattle.std.proofs.Common.{◌≡◌, ℕ, zero, suc, ◌+◌, ◌<◌, ◌≤◌, Bool, true, false, not, List, [], ◌∷◌, ◌++◌, length, get_or, refl, ap, ◌∙◌, arith}
use Rattle.std.specs.Prelude.{◌&&◌, nat_lt, All, AllPairs, is_none, Option, Some, None, if◌then◌else◌}
use Rattle.std.specs.List.{filter, range_with_len, sum_by}
use Rattle.std.proofs.lemmas.Bool.{and_parts, lt-ltb, ltb-true}
use Rattle.std.proofs.lemmas.List.{append-nil}
use Rattle.std.proofs.lemmas.List.Elements.{All-cons, All-nil}
use Rattle.std.proofs.lemmas.List.Filters.{sum_by-filter_both}
use Rattle.std.proofs.lemmas.List.Kept.{AllPairs-cons}
use Rattle.std.proofs.lemmas.List.Sums.{sum_by-cons}
use Rattle.image.specs.Picture.{Picture}
use Rattle.blocks.specs.Faults.{fault_of}
use Rattle.branch_ring.specs.declared.counted.Counted.{Counted}
use Rattle.place_funcs.specs.Groups.{IsClosest}
use Rattle.placer.specs.Chosen.{has_source, is_chosen, chosen}
use Rattle.placer.proofs.Totals.{at, range_once, fails}
use Rattle.placer.proofs.Ordered.{all_pass}
use Rattle.placer.proofs.Grouped.{closest_adds_up}

-- one number more
filter_more : (p : ℕ → Bool) (a n : ℕ) → filter p (range_with_len a (n + 1)) ≡ filter p (range_with_len a n) ++ (if p (a + n) then (a + n) ∷ [] else [])
filter_more p a zero = let e : a + 0 ≡ a = omega arith in rw e refl
filter_more p a (suc n) =
    let place : a + 1 + n ≡ a + suc n = omega arith in
    let size : suc n + 1 ≡ suc (n + 1) = omega arith in
    rw size (by_test (p a) (rw place at (filter_more p (a + 1) n)))
  where
    by_test : (b : Bool) → filter p (range_with_len (a + 1) (n + 1)) ≡ filter p (range_with_len (a + 1) n) ++ (if p (a + suc n) then (a + suc n) ∷ [] else [])
        → (if b then a ∷ filter p (range_with_len (a + 1) (n + 1)) else filter p (range_with_len (a + 1) (n + 1)))
        ≡ (if b then a ∷ filter p (range_with_len (a + 1) n) else filter p (range_with_len (a + 1) n)) ++ (if p (a + suc n) then (a + suc n) ∷ [] else [])
    by_test true e = ap (λ (xs : List ℕ). a ∷ xs) e
    by_test false e = e

pub more_yes : (p : ℕ → Bool) (n : ℕ) → p n ≡ true → filter p (range_with_len 0 (n + 1)) ≡ filter p (range_with_len 0 n) ++ n ∷ []
more_yes p n e = let zero_ : 0 + n ≡ n = omega arith in filter_more p 0 n ∙ rw (zero_, e) refl

pub more_no : (p : ℕ → Bool) (n : ℕ) → p n ≡ false → filter p (range_with_len 0 (n + 1)) ≡ filter p (range_with_len 0 n)
more_no p n e = let zero_ : 0 + n ≡ n = omega arith in filter_more p 0 n ∙ rw (zero_, e, append-nil) refl

within : (p : ℕ → Bool) (a n : ℕ) → All (λ y. a ≤ y) (filter p (range_with_len a n))
within p a zero = All-nil (λ y. a ≤ y)
within p a (suc n) = by_test (p a) (λ i d l. let h = within p (a + 1) n i d l in omega arith)
  where
    by_test : (b : Bool) → All (λ y. a ≤ y) (filter p (range_with_len (a + 1) n)) → All (λ y. a ≤ y) (if b then a ∷ filter p (range_with_len (a + 1) n) else filter p (range_with_len (a + 1) n))
    by_test true h = All-cons (λ y. a ≤ y) a (filter p (range_with_len (a + 1) n)) (omega arith) h
    by_test false h = h

pub filter_rises : (p : ℕ → Bool) (a n : ℕ) → AllPairs (λ x y. x < y) (filter p (range_with_len a n))
filter_rises p a zero = λ i j d l k. absurd (omega (arith, k))
filter_rises p a (suc n) = by_test (p a) (within p (a + 1) n) (filter_rises p (a + 1) n)
  where
    by_test : (b : Bool) → All (λ y. a + 1 ≤ y) (filter p (range_with_len (a + 1) n)) → AllPairs (λ x y. x < y) (filter p (range_with_len (a + 1) n))
        → AllPairs (λ x y. x < y) (if b then a ∷ filter p (range_with_len (a + 1) n) else filter p (range_with_len (a + 1) n))
    by_test true low up = AllPairs-cons (λ x y. x < y) a (filter p (range_with_len (a + 1) n)) (λ i d l. let h = low i d l in omega arith) up
    by_test false low up = up

pub filter_below : (p : ℕ → Bool) (k a n : ℕ) → a + n ≤ k → All (λ y. y < k) (filter p (range_with_len a n))
filter_below p k a zero l = All-nil (λ y. y < k)
filter_below p k a (suc n) l = by_test (p a) (filter_below p k (a + 1) n (omega arith))
  where
    by_test : (b : Bool) → All (λ y. y < k) (filter p (range_with_len (a + 1) n)) → All (λ y. y < k) (if b then a ∷ filter p (range_with_len (a + 1) n) else filter p (range_with_len (a + 1) n))
    by_test true h = All-cons (λ y. y < k) a (filter p (range_with_len (a + 1) n)) (omega arith) h
    by_test false h = h

few : (p : ℕ → Bool) (n x : ℕ) → sum_by (at x) (filter p (range_with_len 0 n)) ≤ 1
few p n x =
    let both = sum_by-filter_both p (λ y. not (p y)) (λ _. refl) (at x) (range_with_len 0 n) in
    let once = range_once x 0 n in
    omega arith

abbrev is_below : ℕ → (ℕ → Bool) → ℕ → Bool
is_below k p y = nat_lt y k && p y

none_fails : (p : ℕ → Bool) (k a n : ℕ) → a + n ≤ k → sum_by (fails (is_below k p)) (filter p (range_with_len a n)) ≡ 0
none_fails p k a zero l = refl
none_fails p k a (suc n) l = by_test (p a) refl (none_fails p k (a + 1) n (omega arith))
  where
    by_test : (b : Bool) → p a ≡ b → sum_by (fails (is_below k p)) (filter p (range_with_len (a + 1) n)) ≡ 0
        → sum_by (fails (is_below k p)) (if b then a ∷ filter p (range_with_len (a + 1) n) else filter p (range_with_len (a + 1) n)) ≡ 0
    by_test true e h = sum_by-cons (fails (is_below k p)) a (filter p (range_with_len (a + 1) n)) ∙ rw (lt-ltb a k (omega arith), e, h) refl
    by_test false e h = h

is_none_of : {X : Type 0} (o : Option X) → is_none o ≡ true → o ≡ None
is_none_of None e = refl
is_none_of (Some x) e = absurd cc

-- an order of the chosen functions
module _ (edge : ℕ → ℕ → ℕ) (count : List ℕ → ℕ) (p : Picture) (profile : List Counted) (order : List ℕ) (c : IsClosest edge count (chosen p profile) order) where
  all_chosen : All (λ f. is_below (length p.funcs) (is_chosen p profile) f ≡ true) order
  all_chosen =
      all_pass (is_below (length p.funcs) (is_chosen p profile)) order (chosen p profile)
      (closest_adds_up edge count (chosen p profile) order (few (is_chosen p profile) (length p.funcs)) c)
      (none_fails (is_chosen p profile) (length p.funcs) 0 (length p.funcs) (omega arith))

  pub all_there : All (λ f. f < length p.funcs) order
  all_there i d l =
      let f : ℕ = get_or order i d in
      ltb-true f (length p.funcs) (and_parts (nat_lt f (length p.funcs)) (is_chosen p profile f) (all_chosen i d l)).0

  pub all_readable : All (λ f. fault_of p f ≡ None) order
  all_readable i d l =
      let f : ℕ = get_or order i d in
      let is = (and_parts (nat_lt f (length p.funcs)) (is_chosen p profile f) (all_chosen i d l)).1 in
      is_none_of (fault_of p f) (and_parts (has_source p.funcs profile f) (is_none (fault_of p f)) is).1

  pub each_once : (x : ℕ) → sum_by (at x) order ≤ 1
  each_once x = rw (closest_adds_up edge count (chosen p profile) order (few (is_chosen p profile) (length p.funcs)) c (at x)) (few (is_chosen p profile) (length p.funcs) x)
