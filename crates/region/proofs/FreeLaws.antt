-- What the free ranges say of single addresses, and where n bytes fit.
use Rattle.std.proofs.Common.{◌≡◌, ℕ, suc, ◌+◌, ◌<◌, ◌≤◌, max, Bool, true, false, cond, not, List, [], ◌∷◌, ◌++◌, length, take, get_or, refl, sym, ◌∙◌, inl, inr, arith}
use Rattle.std.specs.Prelude.{Option, Some, None, ◌⊎◌, ◌↔◌, nat_le, nat_lt, find, position, is_some, IsNone, All, if◌then◌else◌}
use Rattle.std.specs.Option.{option_map}
use Rattle.std.specs.List.{position_or_len}
use Rattle.std.proofs.lemmas.Bool.{and_parts, and_from, or_cases, or_left, leb-true, ltb-true, ltb-false, leb-false, le-leb, lt-leb, lt-ltb, or_right, cases_lt}
use Rattle.std.proofs.lemmas.List.{take_more}
use Rattle.std.proofs.lemmas.List.Elements.{All-nil, All-cons}
use Rattle.finite.proofs.Finding.{place_of, none_by_cond}
use Rattle.oc_base.specs.declared.range.Range.{Range}
use Rattle.region.specs.Free.{size, is_in, is_free, AreFree, Rises, holds, range_from, fit, largest}

pub in_true : (a : ℕ) (r : Range) → is_in a r ≡ true → (r.from ≤ a) × (a < r.to)
in_true a r e = let p = and_parts (nat_le r.from a) (nat_lt a r.to) e in (leb-true r.from a p.0, ltb-true a r.to p.1)

pub in_is : (a : ℕ) (r : Range) → r.from ≤ a → a < r.to → is_in a r ≡ true
in_is a r p q = and_from (nat_le r.from a) (nat_lt a r.to) (le-leb r.from a p) (lt-ltb a r.to q)

pub above : (low high : ℕ) (rs : List Range) (a : ℕ) → Rises low high rs → is_free rs a ≡ true → low ≤ a
above low high [] a h e = absurd cc
above low high (r ∷ rs) a h e =
    elim (or_cases (is_in a r) (is_free rs a) e) [
      | inl p ↦ omega (arith, h.0, in_true a r p)
      | inr p ↦ omega (arith, h.0, h.1, above (r.to + 1) high rs a h.3 p)
    ]

pub below : (low high : ℕ) (rs : List Range) (a : ℕ) → Rises low high rs → is_free rs a ≡ true → a < high
below low high [] a h e = absurd cc
below low high (r ∷ rs) a h e =
    elim (or_cases (is_in a r) (is_free rs a) e) [
      | inl p ↦ omega (arith, h.2, in_true a r p)
      | inr p ↦ below (r.to + 1) high rs a h.3 p
    ]

pub ordered : (low high : ℕ) (rs : List Range) → Rises low high rs → All (λ r. r.from ≤ r.to) rs
ordered low high [] h = All-nil (λ r. r.from ≤ r.to)
ordered low high (r ∷ rs) h = All-cons (λ s. s.from ≤ s.to) r rs (omega (arith, h.1)) (ordered (r.to + 1) high rs h.3)

-- bytes behind a range are free by the rest
pub rest_free : (r : Range) (rs : List Range) (x n : ℕ) → r.to ≤ x → AreFree (r ∷ rs) x n → AreFree rs x n
rest_free r rs x n l f a q t =
    elim (or_cases (is_in a r) (is_free rs a) (f a q t)) [
      | inl u ↦ absurd (let v = in_true a r u in omega (arith, l, q, v.1))
      | inr u ↦ u
    ]

-- free bytes that begin in the first range end in it, since the address after it isn't free
pub stay_in : (low high : ℕ) (r : Range) (rs : List Range) (x n : ℕ) → Rises low high (r ∷ rs) → x < r.to → AreFree (r ∷ rs) x n → 0 < n → (r.from ≤ x) × (x + n ≤ r.to)
stay_in low high r rs x n h l f p = (begin (or_cases (is_in x r) (is_free rs x) (f x (omega arith) (omega (arith, p)))), ending (cases_lt r.to (x + n)))
  where
    begin : (is_in x r ≡ true) ⊎ (is_free rs x ≡ true) → r.from ≤ x
    begin (inl u) = (in_true x r u).0
    begin (inr u) = absurd (omega (arith, l, above (r.to + 1) high rs x h.3 u))

    next : (is_in r.to r ≡ true) ⊎ (is_free rs r.to ≡ true) → ⊥
    next (inl u) = omega (arith, (in_true r.to r u).1)
    next (inr u) = omega (arith, above (r.to + 1) high rs r.to h.3 u)

    ending : (r.to < x + n) ⊎ (x + n ≤ r.to) → x + n ≤ r.to
    ending (inr t) = t
    ending (inl t) = absurd (next (or_cases (is_in r.to r) (is_free rs r.to) (f r.to (omega (arith, l)) t)))

-- the bytes that fit are free
pub fit_free : (low high : ℕ) (rs : List Range) (n b : ℕ) → Rises low high rs → fit rs n ≡ Some b → AreFree rs b n
unfolding fit
fit_free low high [] n b h e = absurd cc
fit_free low high (r ∷ rs) n b h e = by_test (holds n r) (λ q. leb-true n (size r) q) e (λ g. fit_free (r.to + 1) high rs n b h.3 g)
  where
    same : Some r.from ≡ Some b → r.from ≡ b
    same q = cc

    later : AreFree rs b n → AreFree (r ∷ rs) b n
    later f = λ a q t. or_right (is_in a r) (is_free rs a) (f a q t)

    by_test : (t : Bool) → (t ≡ true → n ≤ size r) → option_map range_from (if t then Some r else find (holds n) rs) ≡ Some b
        → (option_map range_from (find (holds n) rs) ≡ Some b → AreFree rs b n) → AreFree (r ∷ rs) b n
    by_test true g e k = λ a q t. or_left (is_in a r) (is_free rs a) (in_is a r (omega (arith, same e, q)) (omega (arith, same e, t, g refl, h.1)))
    by_test false g e k = later (k e)

-- they lie between the ends
pub fit_inside : (low high : ℕ) (rs : List Range) (n b : ℕ) → Rises low high rs → fit rs n ≡ Some b → (low ≤ b) × (b + n ≤ high)
unfolding fit
fit_inside low high [] n b h e = absurd cc
fit_inside low high (r ∷ rs) n b h e = by_test (holds n r) (λ q. leb-true n (size r) q) e (λ g. fit_inside (r.to + 1) high rs n b h.3 g)
  where
    same : Some r.from ≡ Some b → r.from ≡ b
    same q = cc

    by_test : (t : Bool) → (t ≡ true → n ≤ size r) → option_map range_from (if t then Some r else find (holds n) rs) ≡ Some b
        → (option_map range_from (find (holds n) rs) ≡ Some b → (r.to + 1 ≤ b) × (b + n ≤ high)) → (low ≤ b) × (b + n ≤ high)
    by_test true g e k = (omega (arith, same e, h.0), omega (arith, same e, g refl, h.1, h.2))
    by_test false g e k = let q = k e in (omega (arith, q.0, h.0, h.1), q.1)

-- and no others that are free begin before them
pub fit_least : (low high : ℕ) (rs : List Range) (n x b : ℕ) → Rises low high rs → 0 < n → AreFree rs x n → fit rs n ≡ Some b → b ≤ x
unfolding fit
fit_least low high [] n x b h p f e = absurd cc
fit_least low high (r ∷ rs) n x b h p f e =
    by_test (holds n r) (λ q. leb-false n (size r) q) e (cases_lt x r.to) (λ l g. fit_least (r.to + 1) high rs n x b h.3 p (rest_free r rs x n l f) g)
  where
    same : Some r.from ≡ Some b → r.from ≡ b
    same q = cc

    by_test : (t : Bool) → (t ≡ false → size r < n) → option_map range_from (if t then Some r else find (holds n) rs) ≡ Some b → (x < r.to) ⊎ (r.to ≤ x)
        → (r.to ≤ x → option_map range_from (find (holds n) rs) ≡ Some b → b ≤ x) → b ≤ x
    by_test true k e (inl l) j = omega (arith, same e, (stay_in low high r rs x n h l f p).0)
    by_test true k e (inr l) j = omega (arith, same e, l, h.1)
    by_test false k e (inl l) j = let s = stay_in low high r rs x n h l f p in absurd (omega (arith, k refl, s.0, s.1))
    by_test false k e (inr l) j = j l e

-- where nothing fits there are no such bytes
pub fit_none : (low high : ℕ) (rs : List Range) (n x : ℕ) → Rises low high rs → 0 < n → fit rs n ≡ None → AreFree rs x n → ⊥
unfolding fit
fit_none low high [] n x h p e f = absurd (let g = f x (omega arith) (omega (arith, p)) in cc)
fit_none low high (r ∷ rs) n x h p e f =
    by_test (holds n r) (λ q. leb-false n (size r) q) e (cases_lt x r.to) (λ l g. fit_none (r.to + 1) high rs n x h.3 p g (rest_free r rs x n l f))
  where
    by_test : (t : Bool) → (t ≡ false → size r < n) → option_map range_from (if t then Some r else find (holds n) rs) ≡ None → (x < r.to) ⊎ (r.to ≤ x)
        → (r.to ≤ x → option_map range_from (find (holds n) rs) ≡ None → ⊥) → ⊥
    by_test true k e l j = absurd cc
    by_test false k e (inl l) j = let s = stay_in low high r rs x n h l f p in omega (arith, k refl, s.0, s.1)
    by_test false k e (inr l) j = j l e

pub fit_tells : (low high : ℕ) (rs : List Range) (n : ℕ) (o : Option ℕ) → Rises low high rs → o ≡ fit rs n → 0 < n → IsNone o ↔ ((x : ℕ) → AreFree rs x n → ⊥)
fit_tells low high rs n None h e p = (λ i x f. fit_none low high rs n x h p (sym e) f, λ g. refl)
fit_tells low high rs n (Some b) h e p = (λ i. absurd cc, λ g. absurd (g b (fit_free low high rs n b h (sym e))))

same_test : (s m n : ℕ) → s < n → nat_le n m ≡ nat_le n (max s m)
same_test s m n l =
    elim (cases_lt m n) [
      | inl k ↦ lt-leb n m k ∙ sym (lt-leb n (max s m) (omega (arith, l, k)))
      | inr k ↦ le-leb n m k ∙ sym (le-leb n (max s m) (omega (arith, k)))
    ]

-- n bytes fit exactly where the largest has them
pub largest_fits : (rs : List Range) (n : ℕ) → 0 < n → is_some (fit rs n) ≡ nat_le n (largest rs)
unfolding fit
largest_fits [] n p = sym (lt-leb n 0 p)
largest_fits (r ∷ rs) n p = by_test (holds n r) refl (largest_fits rs n p)
  where
    by_test : (t : Bool) → holds n r ≡ t → is_some (option_map range_from (find (holds n) rs)) ≡ nat_le n (largest rs)
        → is_some (option_map range_from (if t then Some r else find (holds n) rs)) ≡ nat_le n (max (size r) (largest rs))
    by_test true e g = sym (le-leb n (max (size r) (largest rs)) (omega (arith, leb-true n (size r) e)))
    by_test false e g = g ∙ same_test (size r) (largest rs) n (leb-false n (size r) e)

pub largest_push : (rs : List Range) (r : Range) → largest (rs ++ r ∷ []) ≡ max (size r) (largest rs)
largest_push [] r = refl
largest_push (s ∷ rs) r = let e = largest_push rs r in omega (arith, e)

pub largest_more : (rs : List Range) (i : ℕ) (d : Range) → i < length rs → largest (take (i + 1) rs) ≡ max (size (get_or rs i d)) (largest (take i rs))
largest_more rs i d l = rw (take_more rs i d l) (largest_push (take i rs) (get_or rs i d))

pub place_found : {X : Type 0} (p : X → Bool) (xs : List X) (i : ℕ) → Some i ≡ position p xs → i ≡ position_or_len p xs
place_found p xs i e = sym (place_of p xs i (sym e))

pub place_within : {X : Type 0} (p : X → Bool) (xs : List X) → position_or_len p xs ≤ length xs
place_within p [] = omega arith
place_within p (x ∷ xs) = by_test (p x) (place_within p xs)
  where
    by_test : (t : Bool) → position_or_len p xs ≤ length xs → cond (not t) (1 + position_or_len p xs) 0 ≤ suc (length xs)
    by_test true l = omega arith
    by_test false l = omega (arith, l)

pub place_none : {X : Type 0} (p : X → Bool) (xs : List X) → None ≡ position p xs → length xs ≡ position_or_len p xs
place_none p xs e =
    let l : length xs ≤ position_or_len p xs = ltb-false _ _ (none_by_cond (nat_lt (position_or_len p xs) (length xs)) (position_or_len p xs) None (sym e)).0 in
    omega (arith, l, place_within p xs)
