-- Numbers that add up to what the first ones do, however they are weighed, are an order of these.
use Rattle.std.proofs.Common.{◌≡◌, ℕ, zero, suc, ◌+◌, ◌≤◌, Bool, true, false, List, [], ◌∷◌, get_or, refl, ◌∙◌, arith}
use Rattle.std.specs.Prelude.{◌==◌, ◌||◌, nat_lt, All}
use Rattle.std.specs.List.{range_with_len, sum_by}
use Rattle.std.proofs.lemmas.Bool.{eq-eqb, lt-ltb, ltb-true}
use Rattle.std.proofs.lemmas.List.FromFn.{length-range_with_len}
use Rattle.std.proofs.lemmas.List.Sums.{get_or-le-sum_by, sum_by-cons}
use Rattle.plans.specs.Orders.{is_among, repeats, IsOrder}
use Rattle.placer.proofs.Totals.{at, range_once, range_has, fails, passes, ones}

-- the same numbers, each as often
abbrev pub AddUp : List ℕ → List ℕ → Type 0
AddUp order xs = (f : ℕ → ℕ) → sum_by f order ≡ sum_by f xs

not_among : (x : ℕ) (ys : List ℕ) → sum_by (at x) ys ≡ 0 → is_among ys x ≡ false
not_among x [] e = refl
not_among x (y ∷ ys) e = by_test (y == x) refl (λ h. not_among x ys h)
  where
    by_test : (b : Bool) → (y == x) ≡ b → (sum_by (at x) ys ≡ 0 → is_among ys x ≡ false) → (b || is_among ys x) ≡ false
    by_test true t ih =
        let split : sum_by (at x) (y ∷ ys) ≡ 1 + sum_by (at x) ys = sum_by-cons (at x) y ys ∙ rw t refl in
        absurd (omega arith)
    by_test false t ih =
        let split : sum_by (at x) (y ∷ ys) ≡ 0 + sum_by (at x) ys = sum_by-cons (at x) y ys ∙ rw t refl in
        ih (omega arith)

among : (x : ℕ) (ys : List ℕ) → 1 ≤ sum_by (at x) ys → is_among ys x ≡ true
among x [] l = absurd (omega (arith, l))
among x (y ∷ ys) l = by_test (y == x) refl (λ h. among x ys h)
  where
    by_test : (b : Bool) → (y == x) ≡ b → (1 ≤ sum_by (at x) ys → is_among ys x ≡ true) → (b || is_among ys x) ≡ true
    by_test true t ih = refl
    by_test false t ih =
        let split : sum_by (at x) (y ∷ ys) ≡ 0 + sum_by (at x) ys = sum_by-cons (at x) y ys ∙ rw t refl in
        ih (omega arith)

neither : (b c : Bool) → b ≡ false → c ≡ false → (b || c) ≡ false
neither b c e h = rw (e, h) refl

pub no_repeats : (xs : List ℕ) → ((x : ℕ) → sum_by (at x) xs ≤ 1) → repeats xs ≡ false
no_repeats [] once = refl
no_repeats (x ∷ xs) once = neither (is_among xs x) (repeats xs) (not_among x xs here) (no_repeats xs rest)
  where
    one : at x x ≡ 1
    one = rw (eq-eqb x x refl) refl

    here : sum_by (at x) xs ≡ 0
    here = let split = sum_by-cons (at x) x xs in let most = once x in let o = one in omega arith

    rest : (y : ℕ) → sum_by (at y) xs ≤ 1
    rest y = let split = sum_by-cons (at y) x xs in let most = once y in omega arith

-- where none fails in a list, all of another that adds up so pass
pub all_pass : (t : ℕ → Bool) (order xs : List ℕ) → AddUp order xs → sum_by (fails t) xs ≡ 0 → All (λ y. t y ≡ true) order
all_pass t order xs same none i d l =
    let most = get_or-le-sum_by (fails t) order i d l in
    let whole = same (fails t) in
    passes t (get_or order i d) (omega arith)

range_below : (k a n : ℕ) → a + n ≤ k → sum_by (fails (λ y. nat_lt y k)) (range_with_len a n) ≡ 0
range_below k a zero l = refl
range_below k a (suc n) l =
    let split : sum_by (fails (λ y. nat_lt y k)) (range_with_len a (suc n)) ≡ 0 + sum_by (fails (λ y. nat_lt y k)) (range_with_len (a + 1) n) =
    sum_by-cons (fails (λ y. nat_lt y k)) a (range_with_len (a + 1) n) ∙ rw (lt-ltb a k (omega arith)) refl in
    let rest = range_below k (a + 1) n (omega arith) in
    omega arith

pub order_of : (k : ℕ) (order : List ℕ) → AddUp order (range_with_len 0 k) → IsOrder k order
order_of k order same =
    let size = same (λ _. 1) in
    let left = ones order in
    let right = ones (range_with_len 0 k) in
    let long = length-range_with_len 0 k in
    record {
      size = omega arith;
      below = λ i d l. ltb-true (get_or order i d) k (all_pass (λ y. nat_lt y k) order (range_with_len 0 k) same (range_below k 0 k (omega arith)) i d l);
      once = no_repeats order (λ x. rw (same (at x)) (range_once x 0 k));
      each = λ j l. among j order (rw (same (at j)) (range_has j k l));
    }
