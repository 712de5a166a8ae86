-- A search by a key that rises.
use Rattle.std.proofs.Common.{◌≡◌, ◌≢◌, ℕ, zero, drop, ◌<◌, ◌≤◌, ◌-◌, suc, Bool, true, false, cond, eqb, leb, ltb, List, [], ◌∷◌, length, get_or, Option, Some, None, refl, inl, inr, arith}
use Rattle.std.specs.Prelude.{◌==◌, ◌&&◌}
use Rattle.std.specs.List.{All, AllPairs, AllWithin, find, position, position_or_len}
use Rattle.std.specs.List.Sorted.{IsNonDecreasingBy}
use Rattle.std.proofs.lemmas.Bool.{lt-ltb, le-ltb, lt-leb, le-leb, and_left, and_right, and_from, and_parts, ltb-true, ltb-false, cases_lt, cases_order, ne_eqb, eq-eqb}
use Rattle.std.specs.Option.{option_and_then}
use Rattle.std.proofs.lemmas.List.Elements.{All-tail}
use Rattle.std.proofs.lemmas.List.Sums.{position_or_len_is}

pub rises : {X : Type 0} (key : X → ℕ) (xs : List X) → AllPairs (λ x y. key x < key y) xs → IsNonDecreasingBy key xs
rises key xs up i j d le lt =
    elim (cases_order i j) [
      | inl same ↦ rw same (omega arith)
      | inr (inl below) ↦ (let h = up i j d below lt in omega arith)
      | inr (inr past) ↦ absurd (omega arith)
    ]

pub at_place : {X : Type 0} (p : X → Bool) (xs : List X) (i : ℕ) → position_or_len p xs ≡ i → i < length xs → position p xs ≡ Some i
at_place p xs i e lt = rw (e, lt-ltb i (length xs) lt) refl

pub nowhere : {X : Type 0} (p : X → Bool) (xs : List X) → position_or_len p xs ≡ length xs → position p xs ≡ None
nowhere p xs e = rw (e, le-ltb (length xs) (length xs) (omega arith)) refl

-- the element at the place of the search has the key
pub hit : {X : Type 0} (key : X → ℕ) (xs : List X) (a i : ℕ) (d : X) → AllWithin (λ x. key x < a) xs 0 i → i < length xs → key (get_or xs i d) ≡ a → position (λ x. key x == a) xs ≡ Some i
hit key xs a i d below lt is =
    let before : (k : ℕ) → k < i → eqb (key (get_or xs k d)) a ≡ false = λ k h. ne_eqb _ _ (λ e. (let b = below k d (omega arith) h in omega arith)) in
    at_place (λ x. key x == a) xs i (position_or_len_is (λ x. key x == a) xs i d (omega arith) before (λ h. eq-eqb _ _ is)) lt

apart : {X : Type 0} (key : X → ℕ) (xs : List X) (a i k : ℕ) (d : X) → AllPairs (λ x y. key x < key y) xs → AllWithin (λ x. key x < a) xs 0 i → AllWithin (λ x. a ≤ key x) xs i (length xs) → (i < length xs → key (get_or xs i d) ≢ a) → k < length xs → key (get_or xs k d) ≢ a
apart key xs a i k d up below others miss lt =
    elim (cases_order k i) [
      | inl same ↦ rw same (miss (omega arith))
      | inr (inl before) ↦ (let b = below k d (omega arith) before in λ e. omega arith)
      | inr (inr past) ↦ (
          let first = others i d (omega arith) (omega arith) in
          let b = up i k d past lt in
          λ e. miss (omega arith) (omega arith))
    ]

-- no element has the key
pub miss : {X : Type 0} (key : X → ℕ) (xs : List X) (a i : ℕ) → AllPairs (λ x y. key x < key y) xs → AllWithin (λ x. key x < a) xs 0 i → AllWithin (λ x. a ≤ key x) xs i (length xs) → ((d : X) → i < length xs → key (get_or xs i d) ≢ a) → position (λ x. key x == a) xs ≡ None
miss key [] a i up below others gone = refl
miss key (x ∷ xs) a i up below others gone =
    let fails : (k : ℕ) → k < length (x ∷ xs) → eqb (key (get_or (x ∷ xs) k x)) a ≡ false = λ k h. ne_eqb _ _ (apart key (x ∷ xs) a i k x up below others (gone x) h) in
    nowhere (λ x. key x == a) (x ∷ xs) (position_or_len_is (λ x. key x == a) (x ∷ xs) (length (x ∷ xs)) x (omega arith) fails (λ h. absurd (omega arith)))

-- ranges that lie apart start in order
pub starts_rise : {X : Type 0} (key end : X → ℕ) (xs : List X) → All (λ x. key x ≤ end x) xs → AllPairs (λ x y. end x ≤ key y) xs → IsNonDecreasingBy key xs
starts_rise key end xs ordered sep i j d le lt =
    elim (cases_order i j) [
      | inl same ↦ rw same (omega arith)
      | inr (inl below) ↦ (let h = sep i j d below lt in let o = ordered i d (omega arith) in omega arith)
      | inr (inr past) ↦ absurd (omega arith)
    ]

-- from the key up to the end
abbrev pub spans : {X : Type 0} (key end : X → ℕ) → ℕ → X → Bool
spans key end a x = leb (key x) a && ltb a (end x)

-- the last that starts in time covers the number
pub covered : {X : Type 0} (key end : X → ℕ) (xs : List X) (a i : ℕ) (d : X) → AllPairs (λ x y. end x ≤ key y) xs → i < length xs → key (get_or xs i d) ≤ a → a < end (get_or xs i d) → position (spans key end a) xs ≡ Some i
covered key end xs a i d sep lt from to =
    let before : (k : ℕ) → k < i → spans key end a (get_or xs k d) ≡ false = λ k h. (let e = sep k i d h lt in and_right _ _ (le-ltb a (end (get_or xs k d)) (omega arith))) in
    at_place (spans key end a) xs i (position_or_len_is (spans key end a) xs i d (omega arith) before (λ h. and_from _ _ (le-leb _ _ from) (lt-ltb _ _ to))) lt

uncovered_at : {X : Type 0} (key end : X → ℕ) (xs : List X) (a n k : ℕ) (d : X) → AllPairs (λ x y. end x ≤ key y) xs → All (λ x. key x ≤ end x) xs → AllWithin (λ x. a < key x) xs n (length xs) → n ≤ length xs → (0 < n → end (get_or xs (n - 1) d) ≤ a) → k < length xs → spans key end a (get_or xs k d) ≡ false
uncovered_at key end xs a n k d sep ordered past le last lt =
    elim (cases_lt k n) [
      | inl before ↦ (
          let l : end (get_or xs (n - 1) d) ≤ a = last (omega arith) in
          elim (cases_lt k (n - 1)) [
            | inl early ↦ (
                let within : n - 1 < length xs = omega (arith, le, before) in
                let e : end (get_or xs k d) ≤ key (get_or xs (n - 1) d) = sep k (n - 1) d early within in
                let o : key (get_or xs (n - 1) d) ≤ end (get_or xs (n - 1) d) = ordered (n - 1) d within in
                and_right _ _ (le-ltb a (end (get_or xs k d)) (omega (arith, e, o, l))))
            | inr late ↦ (
                let same : n - 1 ≡ k = omega (arith, before, late) in
                let h : end (get_or xs k d) ≤ a = rw (← same) l in
                and_right _ _ (le-ltb a (end (get_or xs k d)) h))
          ])
      | inr after ↦ (let p = past k d after lt in and_left _ _ (lt-leb (key (get_or xs k d)) a p))
    ]

-- no element covers the number
pub uncovered : {X : Type 0} (key end : X → ℕ) (xs : List X) (a n : ℕ) → AllPairs (λ x y. end x ≤ key y) xs → All (λ x. key x ≤ end x) xs → AllWithin (λ x. a < key x) xs n (length xs) → n ≤ length xs → ((d : X) → 0 < n → end (get_or xs (n - 1) d) ≤ a) → position (spans key end a) xs ≡ None
uncovered key end [] a n sep ordered past le last = refl
uncovered key end (x ∷ xs) a n sep ordered past le last =
    let fails : (k : ℕ) → k < length (x ∷ xs) → spans key end a (get_or (x ∷ xs) k x) ≡ false = λ k h. uncovered_at key end (x ∷ xs) a n k x sep ordered past le (last x) h in
    nowhere (spans key end a) (x ∷ xs) (position_or_len_is (spans key end a) (x ∷ xs) (length (x ∷ xs)) x (omega arith) fails (λ h. absurd (omega arith)))

abbrev pub wholly : {X : Type 0} (key end : X → ℕ) → ℕ → ℕ → X → Bool
wholly key end a b x = leb (key x) a && leb b (end x)

abbrev pub reaching : {X : Type 0} (end : X → ℕ) → ℕ → X → Option X
reaching end b x = cond (leb b (end x)) (Some x) None

-- what doesn't span the first number doesn't hold the range
unspanned : (k e a b : ℕ) (c : Bool) → a < b → leb k a ≡ c → (leb k a && ltb a e) ≡ false → (leb k a && leb b e) ≡ false
unspanned k e a b true lt is h =
    let past = ltb-false a e (rw is at h) in
    and_right _ _ (lt-leb b e (omega (arith, past)))
unspanned k e a b false lt is h = and_left _ _ is

none_wholly : {X : Type 0} (key end : X → ℕ) (xs : List X) (a b : ℕ) → All (λ x. a < key x) xs → find (wholly key end a b) xs ≡ None
none_wholly key end [] a b h = refl
none_wholly key end (x ∷ xs) a b h = rw (lt-leb (key x) a (h 0 x (omega arith))) (none_wholly key end xs a b (All-tail (λ y. a < key y) x xs h))

pub tail_pairs : {X : Type 0} (R : X → X → Type 0) (x : X) (xs : List X) → AllPairs R (x ∷ xs) → AllPairs R xs
tail_pairs R x xs up i j d lt within = up (suc i) (suc j) d (omega arith) (omega arith)

wholly_case : {X : Type 0} (key end : X → ℕ) (x : X) (xs : List X) (a b : ℕ) (c e : Bool) → AllPairs (λ y z. end y ≤ key z) (x ∷ xs) → a < b → spans key end a x ≡ c → leb b (end x) ≡ e → find (wholly key end a b) xs ≡ option_and_then (reaching end b) (find (spans key end a) xs) → find (wholly key end a b) (x ∷ xs) ≡ option_and_then (reaching end b) (cond c (Some x) (find (spans key end a) xs))
wholly_case key end x xs a b true true sep lt is reach rest = rw ((and_parts (leb (key x) a) (ltb a (end x)) is).0, reach) refl
wholly_case key end x xs a b true false sep lt is reach rest =
    let parts = and_parts (leb (key x) a) (ltb a (end x)) is in
    let inside : a < end x = ltb-true _ _ parts.1 in
    let past : All (λ y. a < key y) xs = λ k d h. (let e : end x ≤ key (get_or xs k d) = sep 0 (suc k) d (omega arith) (omega (arith, h)) in omega (arith, e, inside)) in
    rw (and_right (leb (key x) a) (leb b (end x)) reach, reach) (none_wholly key end xs a b past)
wholly_case key end x xs a b false e sep lt is reach rest = rw (unspanned (key x) (end x) a b (leb (key x) a) lt refl is) rest

-- of ranges apart, the one that holds all of a range is the one that covers its first number, if that reaches to its end
pub find_wholly : {X : Type 0} (key end : X → ℕ) (xs : List X) (a b : ℕ) → AllPairs (λ x y. end x ≤ key y) xs → a < b → find (wholly key end a b) xs ≡ option_and_then (reaching end b) (find (spans key end a) xs)
find_wholly key end [] a b sep lt = refl
find_wholly key end (x ∷ xs) a b sep lt = wholly_case key end x xs a b (spans key end a x) (leb b (end x)) sep lt refl refl (find_wholly key end xs a b (tail_pairs (λ y z. end y ≤ key z) x xs sep) lt)

pub pairs_drop : {X : Type 0} (R : X → X → Type 0) (n : ℕ) (xs : List X) → AllPairs R xs → AllPairs R (drop n xs)
pairs_drop R zero xs h = h
pairs_drop R (suc n) [] h = h
pairs_drop R (suc n) (x ∷ xs) h = pairs_drop R n xs (tail_pairs R x xs h)
