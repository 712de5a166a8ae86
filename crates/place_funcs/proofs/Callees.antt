-- The function that starts at an address, among those that are chosen.
use Rattle.std.proofs.Common.{◌≡◌, ℕ, zero, suc, ◌<◌, ◌≤◌, Bool, true, false, not, List, [], ◌∷◌, length, get_or, ◌⊎◌, inl, inr, refl, sym, ap, subst, ◌∙◌, arith}
use Rattle.std.specs.Prelude.{◌==◌, ◌&&◌, AllPairs, Contains, slice_get, position, nat_lt, cond, IfSome, ◌≢◌, Option, Some, None, Result, Ok, Err, is_ok, MatchResult}
use Rattle.std.specs.List.{position_or_len}
use Rattle.std.specs.Ordering.{nat_cmp}
use Rattle.std.proofs.lemmas.Bool.Decides.{nat_tests}
use Rattle.std.proofs.lemmas.List.{get_or_default}
use Rattle.std.proofs.lemmas.List.Elements.{Contains-from_at}
use Rattle.finite.proofs.Finding.{any_none, nowhere_any, position_holds}
use Rattle.std.specs.List.Sorted.{IsBinarySearchResult}
use Rattle.std.proofs.lemmas.List.Sorted.{searched}
use Rattle.image.specs.declared.ranges.Func.{Func}
use Rattle.image.specs.Aims.{func_start, func_from}
use Rattle.place_funcs.specs.Edges.{is_start}
use Rattle.place_funcs.specs.Rows.{is_of, is_it, is_callee}
use Rattle.place_funcs.proofs.LinkLaws.{differ, alike, same_true}
use Rattle.place_funcs.proofs.Raised.{and_false}
use Rattle.place_funcs.proofs.Totals.{of_in, in_of}

pub is_none : (o : Option ℕ) → o ≡ None → (y : ℕ) → is_it o y ≡ false
is_none o e y = ap (λ (p : Option ℕ). is_it p y) e

pub is_some_it : (o : Option ℕ) (g : ℕ) → o ≡ Some g → (y : ℕ) → is_it o y ≡ (y == g)
is_some_it o g e y = ap (λ (p : Option ℕ). is_it p y) e

-- what stands at a place, if anything
found_or_past : {X : Type 0} (xs : List X) (y : ℕ) → ((length xs ≤ y) × (slice_get xs y ≡ None)) ⊎ ((y < length xs) × ((d : X) → slice_get xs y ≡ Some (get_or xs y d)))
found_or_past [] y = inl (omega arith, refl)
found_or_past (x ∷ xs) zero = inr (omega arith, λ d. refl)
found_or_past (x ∷ xs) (suc y) =
    elim (found_or_past xs y) [
      | inl h ↦ inl (omega (arith, h.0), h.1)
      | inr h ↦ inr (omega (arith, h.0), h.1)
    ]

unlike : (u v : ℕ) → (u == v) ≡ false → u ≡ v → ⊥
unlike u v e s = let t : true ≡ false = sym (alike u) ∙ ap (λ (w : ℕ). u == w) s ∙ e in cc

less : (m n : ℕ) → nat_lt m n ≡ true → m < n
less m n h = grind (arith, nat_tests)

found_within : {X : Type 0} (p : X → Bool) (xs : List X) (g : ℕ) → position p xs ≡ Some g → g < length xs
found_within p xs g e = by_test (nat_lt (position_or_len p xs) (length xs)) refl e
  where
    by_test : (t : Bool) → nat_lt (position_or_len p xs) (length xs) ≡ t → cond t (Some (position_or_len p xs)) None ≡ Some g → g < length xs
    by_test true s k =
        let m : position_or_len p xs ≡ g = cc in
        let lt : position_or_len p xs < length xs = less (position_or_len p xs) (length xs) s in
        omega (arith, m, lt)
    by_test false s k = absurd cc

module _ (funcs : List Func) (at : ℕ) where
  abbrev starts : Func → Bool
  starts f = func_start f == at

  none_starts : position starts funcs ≡ None → (y : ℕ) → is_start at (slice_get funcs y) ≡ false
  none_starts e y =
      elim (found_or_past funcs y) [
        | inl h ↦ ap (is_start at) h.1
        | inr h ↦ (let d : Func = record { from = 0; to = 0 } in ap (is_start at) (h.1 d) ∙ any_none starts funcs y d (nowhere_any starts funcs e) h.0)
      ]

  one_starts : (g : ℕ) → AllPairs (λ f g. f.from < g.from) funcs → position starts funcs ≡ Some g → (y : ℕ) → is_start at (slice_get funcs y) ≡ (y == g)
  one_starts g up e y = by_place (found_or_past funcs y)
    where
      d : Func
      d = record { from = 0; to = 0 }

      inside : g < length funcs
      inside = found_within starts funcs g e

      here : (get_or funcs g d).from ≡ at
      here = same_true (get_or funcs g d).from at (subst (λ (o : Option ℕ). IfSome o (λ i. (d : Func) → starts (get_or funcs i d) ≡ true)) e (position_holds starts funcs (position starts funcs) refl) d)

      apart : y < length funcs → (y ≡ g → ⊥) → (get_or funcs y d).from ≡ at → ⊥
      apart lt n s = by_case (cases_lt y g)
        where
          cases_lt : (y g : ℕ) → (y ≡ g) ⊎ ((y < g) ⊎ (g < y))
          cases_lt y g = grind arith

          by_case : (y ≡ g) ⊎ ((y < g) ⊎ (g < y)) → ⊥
          by_case (inl k) = n k
          by_case (inr (inl k)) = let h = up y g d k inside in omega (arith, h, s, here)
          by_case (inr (inr k)) = let h = up g y d k lt in omega (arith, h, s, here)

      by_place : ((length funcs ≤ y) × (slice_get funcs y ≡ None)) ⊎ ((y < length funcs) × ((d : Func) → slice_get funcs y ≡ Some (get_or funcs y d))) → is_start at (slice_get funcs y) ≡ (y == g)
      by_place (inl h) = ap (is_start at) h.1 ∙ sym (differ y g (λ k. omega (arith, h.0, k, inside)))
      by_place (inr h) = ap (is_start at) (h.1 d) ∙ by_test (y == g) refl
        where
          by_test : (t : Bool) → (y == g) ≡ t → ((get_or funcs y d).from == at) ≡ t
          by_test true s = ap (λ (u : ℕ). (get_or funcs u d).from == at) (same_true y g s) ∙ ap (λ (u : ℕ). u == at) here ∙ alike at
          by_test false s = differ (get_or funcs y d).from at (apart h.0 (unlike y g s))

  module _ (chosen : List ℕ) (f : ℕ) where
    pub callee_none : func_from funcs at ≡ None → (y : ℕ) → is_callee funcs chosen f at y ≡ false
    unfolding func_from
    callee_none e y = ap (λ (t : Bool). t && (is_of chosen y && not (y == f))) (none_starts e y)

    module _ (g : ℕ) (up : AllPairs (λ f g. f.from < g.from) funcs) (e : func_from funcs at ≡ Some g) where
      start_is : (y : ℕ) → is_callee funcs chosen f at y ≡ ((y == g) && (is_of chosen y && not (y == f)))
      unfolding func_from
      start_is y = ap (λ (t : Bool). t && (is_of chosen y && not (y == f))) (one_starts g up e y)

      by_start : (y : ℕ) (s : Bool) → (is_of chosen g && not (g == f)) ≡ s → ((y == g) && (is_of chosen y && not (y == f))) ≡ ((y == g) && s)
      by_start y s k = by_test (y == g) refl
        where
          by_test : (t : Bool) → (y == g) ≡ t → (t && (is_of chosen y && not (y == f))) ≡ (t && s)
          by_test true m = ap (λ (u : ℕ). is_of chosen u && not (u == f)) (same_true y g m) ∙ k
          by_test false m = refl

      pub callee_self : g ≡ f → (y : ℕ) → is_callee funcs chosen f at y ≡ false
      callee_self s y = start_is y ∙ by_start y false (ap (λ (t : Bool). is_of chosen g && not t) (ap (λ (u : ℕ). u == f) s ∙ alike f) ∙ and_false (is_of chosen g)) ∙ and_false (y == g)

      pub callee_out : is_of chosen g ≡ false → (y : ℕ) → is_callee funcs chosen f at y ≡ false
      callee_out s y = start_is y ∙ by_start y false (ap (λ (t : Bool). t && not (g == f)) s) ∙ and_false (y == g)

      pub callee_some : g ≢ f → is_of chosen g ≡ true → (y : ℕ) → is_callee funcs chosen f at y ≡ (y == g)
      callee_some n s y = start_is y ∙ by_start y true (ap (λ (t : Bool). t && not (g == f)) s ∙ ap not (differ g f n)) ∙ and_true (y == g)
        where
          and_true : (b : Bool) → (b && true) ≡ b
          and_true true = refl
          and_true false = refl

-- a search among functions that ascend
rises_on : (fs : List ℕ) → AllPairs (λ f g. f < g) fs → (i j : ℕ) → i ≤ j → j < length fs → get_or fs i 0 ≤ get_or fs j 0
rises_on fs up i j le lt = by_case (cases_le i j le)
  where
    cases_le : (i j : ℕ) → i ≤ j → (i ≡ j) ⊎ (i < j)
    cases_le i j le = grind arith

    by_case : (i ≡ j) ⊎ (i < j) → get_or fs i 0 ≤ get_or fs j 0
    by_case (inl e) = subst (λ (k : ℕ). get_or fs i 0 ≤ get_or fs k 0) e (omega arith)
    by_case (inr s) = let h = up i j 0 s lt in omega (arith, h)

pub one_of_is : (fs : List ℕ) (f : ℕ) (r : Result ℕ ℕ) → IsBinarySearchResult (λ y. nat_cmp y f) fs r → AllPairs (λ f g. f < g) fs → is_ok r ≡ is_of fs f
one_of_is fs f r h up = by_result r (searched fs f r h (rises_on fs up))
  where
    by_result : (r : Result ℕ ℕ) → MatchResult r (λ i. (i < length fs) × (get_or fs i 0 ≡ f)) (λ i. (i ≤ length fs) × ((k : ℕ) → k < i → get_or fs k 0 < f) × ((k : ℕ) → i ≤ k → k < length fs → f < get_or fs k 0)) → is_ok r ≡ is_of fs f
    by_result (Ok i) s = sym (of_in fs f (Contains-from_at fs f (i, s.0, λ d. get_or_same fs i s.0 d ∙ s.1)))
      where
        get_or_same : (xs : List ℕ) (i : ℕ) → i < length xs → (d : ℕ) → get_or xs i d ≡ get_or xs i 0
        get_or_same xs i lt d = get_or_default xs i d 0 lt
    by_result (Err i) s = sym (out (is_of fs f) refl)
      where
        nowhere : Contains fs f → ⊥
        nowhere c = by_case (cases_le c.0 i)
          where
            cases_le : (k i : ℕ) → (k < i) ⊎ (i ≤ k)
            cases_le k i = grind arith

            at : get_or fs c.0 0 ≡ f
            at = get_or_default fs c.0 0 f c.1 ∙ c.2

            by_case : (c.0 < i) ⊎ (i ≤ c.0) → ⊥
            by_case (inl k) = let h = s.1 c.0 k in omega (arith, h, at)
            by_case (inr k) = let h = s.2 c.0 k c.1 in omega (arith, h, at)

        out : (t : Bool) → is_of fs f ≡ t → t ≡ false
        out true e = absurd (nowhere (in_of fs f e))
        out false e = refl
