-- Of layouts that lie apart, only the last that begins up to an address can hold it.
use Rattle.std.proofs.Common.{◌≡◌, ℕ, zero, suc, append_assoc, ◌+◌, ◌-◌, ◌<◌, ◌≤◌, ◌==◌, Bool, true, false, List, [], ◌∷◌, ◌++◌, length, get_or, drop, Some, refl, sym, ap, ◌∙◌, subst, arith, inl, inr, add-one, drop-cons}
use Rattle.std.specs.Prelude.{All, Contains, ◌&&◌, if◌then◌else◌}
use Rattle.std.specs.List.{slice_get, AllWithin}
use Rattle.std.specs.List.Sorted.{IsNonDecreasingBy, IsPermutation}
use Rattle.std.proofs.lemmas.Bool.{cases_lt, eq-eqb}
use Rattle.std.proofs.lemmas.Bool.Decides.{nat_tests}
use Rattle.std.proofs.lemmas.List.Elements.{All-nil, All-cons, All-append, Contains-append_left, Contains-append_right}
use Rattle.std.proofs.lemmas.List.Sorted.{All-permutation, Contains-permutation}
use Rattle.std.proofs.lemmas.List.{get_or_default}
use Rattle.std.proofs.lemmas.List.Folds.{Any-from_list_any, list_any-from_Any}
use Rattle.std.proofs.lemmas.Option.{slice_get_within, slice_get-get_or}
use Rattle.layout.specs.declared.bases.Place.{Place}
use Rattle.layout.specs.Laid.{Laid}
use Rattle.layout.specs.Apart.{AreApart, Covers, LiesIn}
use Rattle.layout.specs.Bases.{base_of, place_of, places_from, ArePlaces}
use Rattle.layout.proofs.Apart.{there, from_there, same_place}

abbrev at_place : ℕ → Laid → Place
at_place k l = record { base = l.base; position = k }

-- a place is that of a layout of the list, which has words
pub record IsOf (k : ℕ) (ls : List Laid) (q : Place) : Type 0 where
  pub i : ℕ
  pub l : Laid
  pub position : q.position ≡ k + i
  pub at : slice_get ls i ≡ Some l
  pub base : q.base ≡ l.base
  pub some : 0 < length l.words

later : (k : ℕ) (m : Laid) (ls : List Laid) (q : Place) → IsOf (k + 1) ls q → IsOf k (m ∷ ls) q
later k m ls q h = record { i = suc h.i; l = h.l; position = omega (arith, h.position); at = h.at; base = h.base; some = h.some }

here : (k : ℕ) (m : Laid) (ls : List Laid) → All (IsOf k (m ∷ ls)) (place_of k m)
here k m ls = by_test (length m.words == 0) refl
  where
    by_test : (b : Bool) → (length m.words == 0) ≡ b → All (IsOf k (m ∷ ls)) (if b then [] else at_place k m ∷ [])
    by_test true e = All-nil (IsOf k (m ∷ ls))
    by_test false e =
        let some : 0 < length m.words = grind (arith, nat_tests) in
        All-cons (IsOf k (m ∷ ls)) (at_place k m) [] (record { i = 0; l = m; position = omega arith; at = refl; base = refl; some = some }) (All-nil (IsOf k (m ∷ ls)))

only : (k : ℕ) (ls : List Laid) → All (IsOf k ls) (places_from k ls)
only k [] = All-nil (IsOf k [])
only k (m ∷ ls) = All-append (IsOf k (m ∷ ls)) (place_of k m) (places_from (k + 1) ls) (here k m ls) (λ i d lt. later k m ls _ (only (k + 1) ls i d lt))

each : (k i : ℕ) (ls : List Laid) (l : Laid) → slice_get ls i ≡ Some l → 0 < length l.words → Contains (places_from k ls) (at_place (k + i) l)
each k i [] l e some = absurd cc
each k zero (m ∷ ls) l e some =
    subst (λ (x : Laid). Contains (place_of k m ++ places_from (k + 1) ls) (at_place (k + 0) x)) same
    (Contains-append_left (place_of k m) (places_from (k + 1) ls) (at_place (k + 0) m) (by_test (length m.words == 0) refl))
  where
    same : m ≡ l
    same = cc

    some_here : 0 < length m.words
    some_here = subst (λ (x : Laid). 0 < length x.words) (sym same) some

    by_test : (b : Bool) → (length m.words == 0) ≡ b → Contains (if b then [] else at_place k m ∷ []) (at_place (k + 0) m)
    by_test true z = absurd (let some = some_here in grind (arith, nat_tests))
    by_test false z = (0, omega arith, ap (λ (j : ℕ). at_place j m) (let e : k ≡ k + 0 = omega arith in e))
each k (suc i) (m ∷ ls) l e some =
    let one : k + 1 + i ≡ k + suc i = omega arith in
    subst (λ (j : ℕ). Contains (place_of k m ++ places_from (k + 1) ls) (at_place j l)) one
    (Contains-append_right (place_of k m) (places_from (k + 1) ls) (at_place (k + 1 + i) l) (each (k + 1) i ls l e some))

-- ---- noted one after another
pub note_next : (lives : List Laid) (i : ℕ) (d : Laid) (before after : List Place) → i < length lives
    → before ++ places_from i (drop i lives) ≡ places_from 0 lives → after ≡ before ++ place_of i (get_or lives i d)
    → after ++ places_from (i + 1) (drop (i + 1) lives) ≡ places_from 0 lives
note_next lives i d before after lt now is =
    let first : before ++ (place_of i (get_or lives i d) ++ places_from (i + 1) (drop (suc i) lives)) ≡ places_from 0 lives
    = subst (λ (xs : List Laid). before ++ places_from i xs ≡ places_from 0 lives) (drop-cons lives i d lt) now in
    let next : drop (i + 1) lives ≡ drop (suc i) lives = ap (λ (j : ℕ). drop j lives) (add-one i) in
    ap (λ (xs : List Place). xs ++ places_from (i + 1) (drop (i + 1) lives)) is
    ∙ append_assoc before (place_of i (get_or lives i d)) (places_from (i + 1) (drop (i + 1) lives))
    ∙ ap (λ (xs : List Laid). before ++ (place_of i (get_or lives i d) ++ places_from (i + 1) xs)) next ∙ first

-- ---- sorted
pub sorted : (lives : List Laid) (noted places : List Place) → noted ≡ places_from 0 lives → IsPermutation noted places → IsNonDecreasingBy base_of places → ArePlaces lives places
sorted lives noted places e same rises = record {
  rises = rises;
  each = λ k l at some. (
      let c = Contains-permutation (places_from 0 lives) places (at_place k l) all
      (subst (λ (j : ℕ). Contains (places_from 0 lives) (at_place j l)) (let z : 0 + k ≡ k = omega arith in z) (each 0 k lives l at some)) in
      list_any-from_Any (λ q. (q.base == l.base) && (q.position == k)) places (c.0, at_place k l, c.1, c.2, rw (eq-eqb l.base l.base refl, eq-eqb k k refl) refl));
  only = λ i q lt. (
      let o = All-permutation (IsOf 0 lives) (places_from 0 lives) places all (only 0 lives) i q lt in
      let place : (get_or places i q).position ≡ o.i = omega (arith, o.position) in (
        (let w = slice_get_within lives o.i o.l o.at in omega (arith, w, place)),
        λ l at. (
            let also : slice_get lives o.i ≡ Some l = subst (λ (j : ℕ). slice_get lives j ≡ Some l) place at in
            let one : o.l ≡ l = same_place lives o.i o.l l o.at also in
            (o.base ∙ ap (λ (x : Laid). x.base) one, subst (λ (x : Laid). 0 < length x.words) one o.some)),
      ));
}
  where
    all : IsPermutation (places_from 0 lives) places
    all = subst (λ (xs : List Place). IsPermutation xs places) e same

-- ---- the nearest
pub placed_within : (lives : List Laid) (places : List Place) (i : ℕ) (q : Place) → ArePlaces lives places → i < length places → (get_or places i q).position < length lives
placed_within lives places i q are lt = (are.only i q lt).0

module _ (lives : List Laid) (places : List Place) (at n : ℕ) (are : ArePlaces lives places) (others : AllWithin (λ x. at < base_of x) places n (length places)) where
  -- the place of a layout that holds the address is among the first n
  among : (k : ℕ) (l : Laid) → slice_get lives k ≡ Some l → Covers at l → (i : ℕ) × (q : Place) × (i < length places) × (i < n) × (get_or places i q ≡ q) × (q.base ≡ l.base)
  among k l e h =
      let c = Any-from_list_any (λ q. (q.base == l.base) && (q.position == k)) places (are.each k l e (omega (arith, h.0, h.1))) in
      let base : c.1.base ≡ l.base = let t = c.4 in grind (arith, nat_tests) in
      elim (cases_lt c.0 n) [
        | inl lt ↦ (c.0, c.1, c.2, lt, c.3, base)
        | inr past ↦ absurd (let high = others c.0 c.1 past c.2 in let is = ap base_of c.3 in omega (arith, high, is, base, h.0))
      ]

  pub none_holds : n ≡ 0 → (k : ℕ) → LiesIn lives at k → ⊥
  none_holds none k h = let l = there lives k (Covers at) h in let c = among k l.0 l.1 l.2 in omega (arith, none, c.3)

  pub nearest_holds : (q : Place) → AreApart lives → AllWithin (λ x. base_of x ≤ at) places 0 n → n ≤ length places
      → 0 < n → (k : ℕ) → LiesIn lives at k → Some (get_or places (n - 1) q).position ≡ Some k
  nearest_holds q apart upto within some k h =
      let l = there lives k (Covers at) h in
      let c = among k l.0 l.1 l.2 in
      let o = are.only (n - 1) q (omega (arith, some, within)) in
      let m = slice_get-get_or lives (get_or places (n - 1) q).position l.0 o.0 in
      let owner = get_or lives (get_or places (n - 1) q).position l.0 in
      let is = o.1 owner m in
      let first : get_or places c.0 q ≡ c.1 = get_or_default places c.0 q c.1 c.2 ∙ c.4 in
      let rise = are.rises c.0 (n - 1) q (omega (arith, c.3)) (omega (arith, some, within)) in
      let low = upto (n - 1) q (omega arith) (omega (arith, some)) in
      let from : l.0.base ≤ owner.base = let b = ap base_of first in omega (arith, rise, b, c.5, is.0) in
      let upward : owner.base ≤ at = omega (arith, low, is.0) in
      let mine : LiesIn lives owner.base k = from_there lives k (Covers owner.base) l.0 l.1 (from, omega (arith, upward, l.2.1)) in
      let its : LiesIn lives owner.base (get_or places (n - 1) q).position = from_there lives (get_or places (n - 1) q).position (Covers owner.base) owner m (omega arith, omega (arith, is.1)) in
      ap (λ (j : ℕ). Some j) (apart owner.base (get_or places (n - 1) q).position k its mine)
