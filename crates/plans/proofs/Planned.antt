-- Parts without a fault are a plan.
use Rattle.std.proofs.Common.{◌≡◌, ℕ, zero, suc, ◌+◌, ◌<◌, ◌==◌, Bool, true, false, not, List, [], ◌∷◌, ◌++◌, map, length, get_or, take, drop, take-append-drop, inl, inr, refl, sym, ◌∙◌, subst, ap, arith}
use Rattle.std.specs.Prelude.{None, ◌&&◌, ◌||◌, ◌≢◌, nat_lt, All, AllPairs}
use Rattle.std.specs.List.{list_any, list_all, range_with_len}
use Rattle.std.proofs.lemmas.Bool.{cases_eq, and_from, lt-ltb, eqb-true, eq-eqb, ltb-true, and_parts, or_left, or_right}
use Rattle.std.proofs.lemmas.List.{get_or-map, length-map, take_more}
use Rattle.std.proofs.lemmas.List.Elements.{All-nil, All-cons, All-map}
use Rattle.std.proofs.lemmas.List.Kept.{AllPairs-cons}
use Rattle.std.proofs.lemmas.List.Sums.{AllPass-from_list_all, list_all-from_AllPass}
use Rattle.std.proofs.lemmas.List.Folds.{list_any-append, list_any_none}
use Rattle.finite.specs.First.{first_of, when}
use Rattle.finite.proofs.Searching.{tail_pairs}
use Rattle.finite.proofs.Finding.{any_none, not_passed}
use Rattle.image.specs.Picture.{Picture}
use Rattle.plans.specs.declared.plan.Moved.{Moved}
use Rattle.plans.specs.declared.plan.PlanFault.TheVariants as why
use Rattle.plans.specs.Orders.{is_among, repeats, is_order, IsOrder}
use Rattle.plans.specs.Plans.{moved_func, IsPlan}
use Rattle.plans.specs.Given.{block_count, is_missing, is_misordered, plan_fault, IsPlanOf}

either_false : (a b : Bool) → (a || b) ≡ false → (a ≡ false) × (b ≡ false)
either_false true b e = absurd cc
either_false false b e = (refl, e)

was_true : (b : Bool) → not b ≡ false → b ≡ true
was_true true e = refl
was_true false e = absurd cc

was_false : (b : Bool) → not b ≡ true → b ≡ false
was_false true e = absurd cc
was_false false e = refl

each_in : (p : ℕ → Bool) (a n j : ℕ) → list_all p (range_with_len a n) ≡ true → j < n → p (a + j) ≡ true
each_in p a zero j e l = absurd (omega (arith, l))
each_in p a (suc n) zero e l = subst (λ (i : ℕ). p i ≡ true) (omega arith) (and_parts (p a) (list_all p (range_with_len (a + 1) n)) e).0
each_in p a (suc n) (suc j) e l =
    subst (λ (i : ℕ). p i ≡ true) (omega arith) (each_in p (a + 1) n j (and_parts (p a) (list_all p (range_with_len (a + 1) n)) e).1 (omega (arith, l)))

each_below : (p : ℕ → Bool) (k j : ℕ) → list_all p (range_with_len 0 k) ≡ true → j < k → p j ≡ true
each_below p k j e l = subst (λ (i : ℕ). p i ≡ true) (omega arith) (each_in p 0 k j e l)

-- the test of an order tells what an order is
pub order_is : (k : ℕ) (order : List ℕ) → is_order k order ≡ true → IsOrder k order
unfolding is_order
order_is k order e =
    let one = and_parts (length order == k) (list_all (λ o. nat_lt o k) order && (not (repeats order) && list_all (is_among order) (range_with_len 0 k))) e in
    let two = and_parts (list_all (λ o. nat_lt o k) order) (not (repeats order) && list_all (is_among order) (range_with_len 0 k)) one.1 in
    let three = and_parts (not (repeats order)) (list_all (is_among order) (range_with_len 0 k)) two.1 in
    record {
      size = eqb-true (length order) k one.0;
      below = λ i d l. ltb-true (get_or order i d) k (AllPass-from_list_all (λ o. nat_lt o k) order two.0 i d l);
      once = was_false (repeats order) three.0;
      each = λ j l. each_below (is_among order) k j three.1 l;
    }

faults_none : (missing twice misordered : Bool) → first_of (when missing why.NoFunction ∷ when (twice || misordered) why.NotAPlan ∷ []) ≡ None
    → (missing ≡ false) × (twice ≡ false) × (misordered ≡ false)
faults_none true t m e = absurd cc
faults_none false true m e = absurd cc
faults_none false false true e = absurd cc
faults_none false false false e = (refl, refl, refl)

-- numbers of which none stands twice differ
not_among : (x : ℕ) (xs : List ℕ) → is_among xs x ≡ false → All (λ y. x ≢ y) xs
not_among x [] e = All-nil (λ y. x ≢ y)
not_among x (y ∷ ys) e =
    let parts = either_false (y == x) (is_among ys x) e in
    All-cons (λ z. x ≢ z) y ys (λ q. absurd (both (eq-eqb y x (sym q)) parts.0)) (not_among x ys parts.1)
  where
    both : {b : Bool} → b ≡ true → b ≡ false → ⊥
    both p q = absurd cc

pub apart : (xs : List ℕ) → repeats xs ≡ false → AllPairs (λ x y. x ≢ y) xs
apart [] e = λ i j d l k. absurd (omega (arith, k))
apart (x ∷ xs) e =
    let parts = either_false (is_among xs x) (repeats xs) e in
    AllPairs-cons (λ y z. y ≢ z) x xs (not_among x xs parts.0) (apart xs parts.1)

funcs_apart : (parts : List Moved) → AllPairs (λ x y. x ≢ y) (map moved_func parts) → AllPairs (λ m n. m.func ≢ n.func) parts
funcs_apart parts a i j d l k =
    subst (λ (x : ℕ). x ≢ (get_or parts j d).func) (get_or-map moved_func parts i d (moved_func d) (omega (arith, l, k)))
    (subst (λ (y : ℕ). get_or (map moved_func parts) i (moved_func d) ≢ y) (get_or-map moved_func parts j d (moved_func d) k) (a i j (moved_func d) l (rw (length-map parts moved_func) k)))

-- parts without a fault: what they are
pub planned : (p : Picture) (parts : List Moved) → plan_fault p parts ≡ None → IsPlanOf p parts
unfolding plan_fault
planned p parts e =
    let f = faults_none (list_any (is_missing p) parts) (repeats (map moved_func parts)) (list_any (is_misordered p) parts) e in
    record {
      there = λ i d l. ltb-true (get_or parts i d).func (length p.funcs) (was_true (nat_lt (get_or parts i d).func (length p.funcs)) (any_none (is_missing p) parts i d f.0 l));
      once = funcs_apart parts (apart (map moved_func parts) f.1);
      orders = λ i d l. order_is (block_count p (get_or parts i d)) (get_or parts i d).order
          (was_true (is_order (block_count p (get_or parts i d)) (get_or parts i d).order) (any_none (is_misordered p) parts i d f.2 l));
    }

own_size : (k : ℕ) (order : List ℕ) → IsOrder k order → IsOrder (length order) order
own_size k order o = subst (λ (n : ℕ). IsOrder n order) (sym o.size) o

-- and what a plan keeps
pub tests_keep : (p : Picture) (parts : List Moved) → list_any (is_missing p) parts ≡ false → repeats (map moved_func parts) ≡ false → list_any (is_misordered p) parts ≡ false → IsPlan parts
unfolding plan_fault
tests_keep p parts a b c =
    let g = planned p parts (rw (a, b, c) refl) in
    record { once = b; orders = λ i d l. own_size (block_count p (get_or parts i d)) (get_or parts i d).order (g.orders i d l) }

eqb_turned : (a b : ℕ) → (a == b) ≡ (b == a)
eqb_turned a b =
    elim (cases_eq a b) [
      | inl e ↦ rw e refl
      | inr n ↦ not_passed (a == b) (λ t. n (eqb-true a b t)) ∙ sym (not_passed (b == a) (λ t. n (sym (eqb-true b a t))))
    ]

-- one number more
pub repeats_push : (xs : List ℕ) (y : ℕ) → repeats (xs ++ y ∷ []) ≡ (repeats xs || is_among xs y)
repeats_push [] y = refl
repeats_push (x ∷ xs) y =
    rw (list_any-append (λ o. o == x) xs (y ∷ []), repeats_push xs y) (turned (list_any (λ o. o == x) xs) (y == x) (x == y) (repeats xs) (list_any (λ o. o == y) xs) (eqb_turned y x))
  where
    turned : (a b c d e : Bool) → b ≡ c → ((a || (b || false)) || (d || e)) ≡ ((a || d) || (c || e))
    turned true b c d e q = refl
    turned false true c true e q = refl
    turned false true c false e q = rw (sym q) refl
    turned false false c d e q = rw (sym q) refl

pub repeats_on : (xs ys : List ℕ) → repeats xs ≡ true → repeats (xs ++ ys) ≡ true
repeats_on [] ys e = absurd cc
repeats_on (x ∷ xs) ys e = by_test (is_among xs x) (repeats xs) refl e (repeats_on xs ys)
  where
    by_test : (a b : Bool) → is_among xs x ≡ a → (a || b) ≡ true → (b ≡ true → repeats (xs ++ ys) ≡ true) → (is_among (xs ++ ys) x || repeats (xs ++ ys)) ≡ true
    by_test true b p e h = or_left (is_among (xs ++ ys) x) (repeats (xs ++ ys)) (list_any-append (λ o. o == x) xs ys ∙ or_left (is_among xs x) (is_among ys x) p)
    by_test false b p e h = or_right (is_among (xs ++ ys) x) (repeats (xs ++ ys)) (h e)

-- a loop over numbers, one number on
pub repeats_next : (xs : List ℕ) (i d : ℕ) → i < length xs → repeats (take (i + 1) xs) ≡ (repeats (take i xs) || is_among (take i xs) (get_or xs i d))
repeats_next xs i d l = rw (take_more xs i d l) (repeats_push (take i xs) (get_or xs i d))

pub among_next : (xs : List ℕ) (i d q : ℕ) → i < length xs → is_among (take (i + 1) xs) q ≡ (is_among (take i xs) q || (get_or xs i d == q))
among_next xs i d q l = rw (take_more xs i d l) (list_any-append (λ o. o == q) (take i xs) (get_or xs i d ∷ []) ∙ ap (λ (b : Bool). is_among (take i xs) q || b) (or_false (get_or xs i d == q)))
  where
    or_false : (b : Bool) → (b || false) ≡ b
    or_false true = refl
    or_false false = refl

pub repeats_early : (xs : List ℕ) (i : ℕ) → repeats (take i xs) ≡ true → repeats xs ≡ true
repeats_early xs i e = subst (λ (ys : List ℕ). repeats ys ≡ true) (take-append-drop i xs) (repeats_on (take i xs) (drop i xs) e)

pub all_next : (p : ℕ → Bool) (a n : ℕ) → list_all p (range_with_len a (n + 1)) ≡ (list_all p (range_with_len a n) && p (a + n))
all_next p a zero = and_true (p a) ∙ ap p (omega arith)
  where
    and_true : (b : Bool) → (b && true) ≡ b
    and_true true = refl
    and_true false = refl
all_next p a (suc n) =
    let e : suc n + 1 ≡ suc (n + 1) = omega arith in
    let place : a + 1 + n ≡ a + suc n = omega arith in
    rw (e, all_next p (a + 1) n, place) (grouped (p a) (list_all p (range_with_len (a + 1) n)) (p (a + suc n)))
  where
    grouped : (b c d : Bool) → (b && (c && d)) ≡ ((b && c) && d)
    grouped true c d = refl
    grouped false c d = refl

pub each_fails : (p : ℕ → Bool) (k j : ℕ) → j < k → p j ≡ false → list_all p (range_with_len 0 k) ≡ false
each_fails p k j l e = not_passed (list_all p (range_with_len 0 k)) (λ t. absurd (let h = each_below p k j t l in cc))

pub put_twice : (xs : List ℕ) (i : ℕ) (b : Bool) → i < length xs → false ≡ not b → b ≡ is_among (take i xs) (get_or xs i 0) → repeats xs ≡ true
put_twice xs i true l e p =
    repeats_early xs (i + 1) (repeats_next xs i 0 l ∙ or_right (repeats (take i xs)) (is_among (take i xs) (get_or xs i 0)) (sym p))
put_twice xs i false l e p = absurd cc

pub put_once : (xs : List ℕ) (i : ℕ) (b : Bool) → i < length xs → true ≡ not b → b ≡ is_among (take i xs) (get_or xs i 0) → repeats (take i xs) ≡ false → repeats (take (i + 1) xs) ≡ false
put_once xs i true l e p q = absurd cc
put_once xs i false l e p q = repeats_next xs i 0 l ∙ rw (q, sym p) refl

each_all : (p : ℕ → Bool) (a n : ℕ) → ((j : ℕ) → j < n → p (a + j) ≡ true) → list_all p (range_with_len a n) ≡ true
each_all p a zero h = refl
each_all p a (suc n) h =
    and_from (p a) (list_all p (range_with_len (a + 1) n)) (subst (λ (i : ℕ). p i ≡ true) (omega arith) (h 0 (omega arith)))
    (each_all p (a + 1) n (λ j l. subst (λ (i : ℕ). p i ≡ true) (omega arith) (h (suc j) (omega (arith, l)))))

order_passes : (k : ℕ) (order : List ℕ) → IsOrder k order → is_order k order ≡ true
unfolding is_order
order_passes k order o =
    and_from _ _ (eq-eqb (length order) k o.size)
    (and_from _ _ (list_all-from_AllPass (λ x. nat_lt x k) order (λ i d l. lt-ltb (get_or order i d) k (o.below i d l)))
    (and_from _ _ (rw (o.once) refl) (each_all (is_among order) 0 k (λ j l. subst (λ (i : ℕ). is_among order i ≡ true) (omega arith) (o.each j l)))))

no_repeat : (parts : List Moved) → AllPairs (λ m n. m.func ≢ n.func) parts → repeats (map moved_func parts) ≡ false
no_repeat [] a = refl
no_repeat (m ∷ ms) a =
    rw (list_any_none (λ o. o == m.func) (map moved_func ms)
    (All-map (λ o. (o == m.func) ≡ false) moved_func ms
    (λ i d l. not_passed ((get_or ms i d).func == m.func) (λ e. a 0 (suc i) d (omega arith) (omega (arith, l)) (sym (eqb-true (get_or ms i d).func m.func e))))))
    (no_repeat ms (tail_pairs (λ m n. m.func ≢ n.func) m ms a))

-- such parts have no fault
pub accepted : (p : Picture) (parts : List Moved) → IsPlanOf p parts → plan_fault p parts ≡ None
unfolding plan_fault
accepted p parts h =
    let a : list_any (is_missing p) parts ≡ false = list_any_none (is_missing p) parts (λ i d l. rw (lt-ltb (get_or parts i d).func (length p.funcs) (h.there i d l)) refl) in
    let b : list_any (is_misordered p) parts ≡ false =
    list_any_none (is_misordered p) parts (λ i d l. rw (order_passes (block_count p (get_or parts i d)) (get_or parts i d).order (h.orders i d l)) refl) in
    rw (a, b, no_repeat parts h.once) refl
