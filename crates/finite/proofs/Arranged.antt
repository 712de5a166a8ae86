-- Ranges of which no two share a number, and what a sort by their starts makes of them.
use Rattle.std.proofs.Common.{◌≡◌, ℕ, ◌<◌, ◌≤◌, Bool, true, false, ltb, List, [], ◌∷◌, ◌++◌, map, get_or, ◌⊎◌, inl, inr, refl, ap, ◌∙◌, arith}
use Rattle.std.specs.Prelude.{◌&&◌, ◌||◌}
use Rattle.std.specs.List.{All, AllPairs, AllByRecursion, IsDistinct, list_any}
use Rattle.std.specs.List.Sorted.{IsNonDecreasingBy, IsPermutation}
use Rattle.std.proofs.lemmas.Bool.{and_cases, and_left, and_right, ltb-false, le-ltb}
use Rattle.std.proofs.lemmas.Bool.Decides.{nat_tests}
use Rattle.std.proofs.lemmas.List.Elements.{All-tail}
use Rattle.std.proofs.lemmas.List.Folds.{list_any-append}
use Rattle.std.proofs.lemmas.Map.Keys.{apart_from_distinct, IsDistinct-IsPermutation}

-- two ranges share a number
abbrev pub clash : {X : Type 0} (key end : X → ℕ) → X → X → Bool
clash key end x y = ltb (key x) (end y) && ltb (key y) (end x)

clash_flips : {X : Type 0} (key end : X → ℕ) (x y : X) → clash key end x y ≡ clash key end y x
clash_flips key end x y = grind (arith, nat_tests)

after : (a b c d : ℕ) → a ≤ c → c < d → (ltb a d && ltb c b) ≡ false → b ≤ c
after a b c d le lt e =
    elim (and_cases (ltb a d) (ltb c b) e) [
      | inl first ↦ (let past = ltb-false a d first in absurd (omega arith))
      | inr second ↦ ltb-false c b second
    ]

rise : {X : Type 0} (key end : X → ℕ) (xs : List X) → IsNonDecreasingBy key xs → IsDistinct (clash key end) xs → All (λ x. key x < end x) xs → AllPairs (λ x y. end x ≤ key y) xs
rise key end xs up sep some i j d lt within =
    after (key (get_or xs i d)) (end (get_or xs i d)) (key (get_or xs j d)) (end (get_or xs j d)) (up i j d (omega arith) within) (some j d within) (apart_from_distinct (clash key end) xs i j d sep lt within)

-- sorted by their starts, they lie one after the other
pub rise_sorted : {X : Type 0} (key end : X → ℕ) (xs ys : List X) → IsDistinct (clash key end) xs → IsPermutation xs ys → IsNonDecreasingBy key ys → All (λ x. key x < end x) ys → AllPairs (λ x y. end x ≤ key y) ys
rise_sorted key end xs ys sep moved up some = rise key end ys up (IsDistinct-IsPermutation (clash key end) (clash_flips key end) xs ys moved sep) some

pub keys_rise : {X : Type 0} (key end : X → ℕ) (xs : List X) → AllPairs (λ x y. end x ≤ key y) xs → All (λ x. key x < end x) xs → AllPairs (λ x y. key x < key y) xs
keys_rise key end xs sep some i j d lt within =
    let e : end (get_or xs i d) ≤ key (get_or xs j d) = sep i j d lt within in
    let o : key (get_or xs i d) < end (get_or xs i d) = some i d (omega arith) in
    omega (arith, e, o)

pub no_clash : {X : Type 0} (key end : X → ℕ) (x y : X) → (end x ≤ key y) ⊎ (end y ≤ key x) → clash key end x y ≡ false
no_clash key end x y (inl le) = and_right _ _ (le-ltb (key y) (end x) le)
no_clash key end x y (inr le) = and_left _ _ (le-ltb (key x) (end y) le)

both_none : (a b : Bool) → a ≡ false → b ≡ false → (a || b) ≡ false
both_none a b e h = rw (e, h) refl

left_none : (a b : Bool) → (a || b) ≡ false → (a ≡ false) × (b ≡ false)
left_none true b e = absurd cc
left_none false b e = (refl, e)

-- none of them clashes with a later one
abbrev pub IsApart : {X : Type 0} → (X → X → Bool) → List X → Type 0
IsApart e [] = Unit {0}
IsApart e (x ∷ xs) = (list_any (e x) xs ≡ false) × IsApart e xs

each_apart : {X : Type 0} (e : X → X → Bool) (x : X) (xs : List X) → list_any (e x) xs ≡ false → AllByRecursion (λ y. e x y ≡ false) xs
each_apart e x [] h = tt
each_apart e x (y ∷ ys) h = let both = left_none (e x y) (list_any (e x) ys) h in (both.0, each_apart e x ys both.1)

pub distinct_apart : {X : Type 0} (e : X → X → Bool) (xs : List X) → IsApart e xs → IsDistinct e xs
unfolding IsDistinct
distinct_apart e [] h = tt
distinct_apart e (x ∷ xs) h = (each_apart e x xs h.0, distinct_apart e xs h.1)

-- two lists of which no element of one clashes with one of the other
pub apart_append : {X : Type 0} (e : X → X → Bool) (xs ys : List X) → IsApart e xs → IsApart e ys → All (λ x. list_any (e x) ys ≡ false) xs → IsApart e (xs ++ ys)
apart_append e [] ys h k cross = k
apart_append e (x ∷ xs) ys h k cross =
    (list_any-append (e x) xs ys ∙ both_none (list_any (e x) xs) (list_any (e x) ys) h.0 (cross 0 x (omega arith)), apart_append e xs ys h.1 k (All-tail (λ z. list_any (e z) ys ≡ false) x xs cross))

any_map : {X Y : Type 0} (p : Y → Bool) (f : X → Y) (xs : List X) → list_any p (map f xs) ≡ list_any (λ x. p (f x)) xs
any_map p f [] = refl
any_map p f (x ∷ xs) = ap (λ (b : Bool). p (f x) || b) (any_map p f xs)

pub apart_map : {X Y : Type 0} (e : Y → Y → Bool) (f : X → Y) (xs : List X) → IsApart (λ x y. e (f x) (f y)) xs → IsApart e (map f xs)
apart_map e f [] h = tt
apart_map e f (x ∷ xs) h = (any_map (e (f x)) f xs ∙ h.0, apart_map e f xs h.1)
