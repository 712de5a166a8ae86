-- The elements of a part of a list are those that pass a test.
use Rattle.std.proofs.Common.{◌≡◌, ℕ, zero, suc, ◌+◌, ◌-◌, ◌<◌, ◌≤◌, Bool, true, false, List, [], ◌∷◌, length, get_or, take, drop, ◌⊎◌, inl, inr, refl, sym, ap, subst, arith}
use Rattle.std.specs.Prelude.{AllPairs}
use Rattle.std.specs.List.{filter, AllWithin}
use Rattle.std.specs.List.Sorted.{IsNonDecreasingBy}
use Rattle.std.proofs.lemmas.Bool.Decides.{nat_tests}
use Rattle.image.specs.declared.ranges.Func.{Func}
use Rattle.image.specs.Aims.{is_inside}
use Rattle.branch_ring.specs.declared.counted.Counted.{Counted}
use Rattle.branch_ring.specs.Profiles.{Precedes}
use Rattle.place_funcs.specs.Rows.{start_of}

-- which places of a list pass a test
record Passes {X : Type 0} (p : X → Bool) (xs : List X) (i j : ℕ) : Type 0 where
  before : (k : ℕ) (d : X) → k < i → p (get_or xs k d) ≡ false
  within : (k : ℕ) (d : X) → i ≤ k → k < j → p (get_or xs k d) ≡ true
  behind : (k : ℕ) (d : X) → j ≤ k → k < length xs → p (get_or xs k d) ≡ false

part_is : {X : Type 0} (p : X → Bool) (xs : List X) (i n : ℕ) → i + n ≤ length xs → Passes p xs i (i + n) → filter p xs ≡ take n (drop i xs)
part_is p [] zero zero le h = refl
part_is p [] zero (suc n) le h = absurd (omega (arith, le))
part_is p [] (suc i) n le h = absurd (omega (arith, le))
part_is p (x ∷ xs) (suc i) n le h =
    rw (h.before 0 x (omega arith))
    (part_is p xs i n (omega (arith, le)) (record {
      before = λ k d lt. h.before (suc k) d (omega (arith, lt));
      within = λ k d l u. h.within (suc k) d (omega (arith, l)) (omega (arith, u));
      behind = λ k d l u. h.behind (suc k) d (omega (arith, l)) (omega (arith, u));
    }))
part_is p (x ∷ xs) zero zero le h =
    rw (h.behind 0 x (omega arith) (omega arith))
    (part_is p xs 0 0 (omega arith) (record {
      before = λ k d lt. absurd (omega (arith, lt));
      within = λ k d l u. absurd (omega (arith, u));
      behind = λ k d l u. h.behind (suc k) d (omega arith) (omega (arith, u));
    }))
part_is p (x ∷ xs) zero (suc n) le h =
    rw (h.within 0 x (omega arith) (omega arith))
    (ap (λ ys. x ∷ ys)
    (part_is p xs 0 n (omega (arith, le)) (record {
      before = λ k d lt. absurd (omega (arith, lt));
      within = λ k d l u. h.within (suc k) d (omega arith) (omega (arith, u));
      behind = λ k d l u. h.behind (suc k) d (omega (arith, l)) (omega (arith, u));
    })))

pub starts_rise : (ps : List Counted) → AllPairs Precedes ps → IsNonDecreasingBy start_of ps
starts_rise ps h i j d le lt = by_case i j d le lt (cases_le i j le)
  where
    cases_le : (i j : ℕ) → i ≤ j → (i ≡ j) ⊎ (i < j)
    cases_le i j le = grind arith

    by_case : (i j : ℕ) (d : Counted) → i ≤ j → j < length ps → (i ≡ j) ⊎ (i < j) → start_of (get_or ps i d) ≤ start_of (get_or ps j d)
    by_case i j d le lt (inl e) = subst (λ (k : ℕ). start_of (get_or ps i d) ≤ start_of (get_or ps k d)) e (omega arith)
    by_case i j d le lt (inr s) = let k = h i j d s lt in grind arith

inside_true : (f : Func) (a : ℕ) → f.from ≤ a → a < f.to → is_inside a f ≡ true
inside_true f a h k = grind (arith, nat_tests)

inside_false : (f : Func) (a : ℕ) → a < f.from → is_inside a f ≡ false
inside_false f a h = grind (arith, nat_tests)

inside_false_too : (f : Func) (a : ℕ) → f.to ≤ a → is_inside a f ≡ false
inside_false_too f a h = grind (arith, nat_tests)

-- where the bounds of a function are found, what lies between them goes from the function
pub between_bounds : (ps : List Counted) (f : Func) (i j : ℕ) → i ≤ j → j ≤ length ps
    → AllWithin (λ c. start_of c < f.from) ps 0 i → AllWithin (λ c. f.from ≤ start_of c) ps i (length ps)
    → AllWithin (λ c. start_of c < f.to) ps 0 j → AllWithin (λ c. f.to ≤ start_of c) ps j (length ps)
    → take (j - i) (drop i ps) ≡ filter (λ c. is_inside c.from f) ps
between_bounds ps f i j le within a b c d =
    let e : i + (j - i) ≡ j = omega (arith, le) in
    sym (part_is (λ (c : Counted). is_inside c.from f) ps i (j - i) (omega (arith, le, within)) (subst (λ (k : ℕ). Passes (λ (c : Counted). is_inside c.from f) ps i k) (sym e) (record {
      before = λ k z lt. inside_false f (get_or ps k z).from (a k z (omega arith) lt);
      within = λ k z l u. inside_true f (get_or ps k z).from (b k z l (omega (arith, u, within))) (c k z (omega arith) u);
      behind = λ k z l u. inside_false_too f (get_or ps k z).from (d k z l u);
    })))

-- fewer go from below the start than from below the end
pub bounds_rise : (ps : List Counted) (f : Func) (i j : ℕ) → f.from ≤ f.to → i ≤ length ps → AllWithin (λ c. start_of c < f.from) ps 0 i → AllWithin (λ c. f.to ≤ start_of c) ps j (length ps) → i ≤ j
bounds_rise ps f i j h le a d = by_case (cases_lt i j)
  where
    cases_lt : (i j : ℕ) → (i ≤ j) ⊎ (j < i)
    cases_lt i j = grind arith

    by_case : (i ≤ j) ⊎ (j < i) → i ≤ j
    by_case (inl l) = l
    by_case (inr l) = absurd (let z : Counted = record { from = 0; to = 0; count = 0 } in let p = a j z (omega arith) l in let q = d j z (omega arith) (omega (arith, l, le)) in omega (arith, p, q, h))
