-- The first element that passes a test.
use Rattle.std.proofs.Common.{◌≡◌, ℕ, zero, suc, ◌+◌, ◌<◌, ◌≤◌, Bool, true, false, cond, List, [], ◌∷◌, ◌++◌, length, take, drop, get_or, Option, Some, None, refl, sym, ap, ltb, ◌∙◌, arith}
use Rattle.std.specs.Prelude.{not, ◌||◌, is_some, IfSome}
use Rattle.std.proofs.lemmas.List.Quantifiers.{position-Some}
use Rattle.std.specs.List.{All, find, flat_map, position, list_any, position_or_len, before_first}
use Rattle.std.specs.Option.{option_map, option_or}
use Rattle.std.proofs.lemmas.Bool.{ltb-false, ltb-true, lt-ltb}
use Rattle.std.proofs.lemmas.Bool.Decides.{nat_tests}
use Rattle.std.proofs.lemmas.Option.{cond_some}
use Rattle.std.proofs.lemmas.List.{drop_more, take_all}
use Rattle.std.proofs.lemmas.List.Elements.{All-tail}
use Rattle.std.proofs.lemmas.List.Folds.{list_any_at, list_any_none}
use Rattle.std.proofs.lemmas.List.Sums.{position_or_len_is}

pub not_passed : (b : Bool) → (b ≡ true → ⊥) → b ≡ false
not_passed true h = absurd (h refl)
not_passed false h = refl

pub none_by_cond : {X : Type 0} (b : Bool) (x : X) (o : Option X) → cond b (Some x) o ≡ None → (b ≡ false) × (o ≡ None)
none_by_cond true x o e = absurd cc
none_by_cond false x o e = (refl, e)

pub none_by_map : {X Y : Type 0} (f : X → Y) (o : Option X) → option_map f o ≡ None → o ≡ None
none_by_map f None e = refl
none_by_map f (Some x) e = absurd cc

-- nothing was found, so each fails
pub find_none : {X : Type 0} (p : X → Bool) (xs : List X) (i : ℕ) (d : X) → find p xs ≡ None → i < length xs → p (get_or xs i d) ≡ false
find_none p [] i d e lt = absurd (omega arith)
find_none p (x ∷ xs) zero d e lt = (none_by_cond (p x) x (find p xs) e).0
find_none p (x ∷ xs) (suc i) d e lt = find_none p xs i d (none_by_cond (p x) x (find p xs) e).1 (omega arith)

pub any_none : {X : Type 0} (p : X → Bool) (xs : List X) (i : ℕ) (d : X) → list_any p xs ≡ false → i < length xs → p (get_or xs i d) ≡ false
any_none p xs i d e lt = not_passed (p (get_or xs i d)) (λ h. absurd (let at = list_any_at p xs i d lt h in cc))

-- what stands before the first that passes
pub before_found : {X : Type 0} (p : X → Bool) (xs : List X) (i : ℕ) → position p xs ≡ Some i → take i xs ≡ before_first p xs
before_found p xs i e = ap (λ (n : ℕ). take n xs) (sym (cond_some (ltb (position_or_len p xs) (length xs)) (position_or_len p xs) i e).1)

pub before_none : {X : Type 0} (p : X → Bool) (xs : List X) → position p xs ≡ None → xs ≡ before_first p xs
before_none p xs e =
    let le : length xs ≤ position_or_len p xs = ltb-false _ _ (none_by_cond (ltb (position_or_len p xs) (length xs)) (position_or_len p xs) None e).0 in
    sym (take_all (position_or_len p xs) xs le)

found_step : {X : Type 0} (b : Bool) (x : X) (n : ℕ) (xs : List X) (d : X) (rest : Option X) → (n < length xs → rest ≡ Some (get_or xs n d)) → cond (not b) (1 + n) 0 < suc (length xs) → cond b (Some x) rest ≡ Some (get_or (x ∷ xs) (cond (not b) (1 + n) 0) d)
found_step true x n xs d rest h lt = refl
found_step false x n xs d rest h lt =
    let e : 1 + n ≡ suc n = omega arith in
    rw e (h (omega arith))

found_first : {X : Type 0} (p : X → Bool) (xs : List X) (d : X) → position_or_len p xs < length xs → find p xs ≡ Some (get_or xs (position_or_len p xs) d)
found_first p [] d lt = absurd (omega arith)
found_first p (x ∷ xs) d lt = found_step (p x) x (position_or_len p xs) xs d (find p xs) (found_first p xs d) lt

-- the first place that passes, and the element there
pub found_at : {X : Type 0} (p : X → Bool) (xs : List X) (i : ℕ) (d : X) → position p xs ≡ Some i → find p xs ≡ Some (get_or xs i d)
found_at p xs i d e =
    let n = (cond_some (ltb (position_or_len p xs) (length xs)) (position_or_len p xs) i e).1 in
    rw (← n) (found_first p xs d (ltb-true _ _ (cond_some (ltb (position_or_len p xs) (length xs)) (position_or_len p xs) i e).0))

pub place_of : {X : Type 0} (p : X → Bool) (xs : List X) (i : ℕ) → position p xs ≡ Some i → position_or_len p xs ≡ i
place_of p xs i e = (cond_some (ltb (position_or_len p xs) (length xs)) (position_or_len p xs) i e).1

found_case : {X : Type 0} (b : Bool) (x : X) (o q r : Option X) → r ≡ option_or o q → cond b (Some x) r ≡ option_or (cond b (Some x) o) q
found_case true x o q r e = refl
found_case false x o q r e = e

pub find-append : {X : Type 0} (p : X → Bool) (xs ys : List X) → find p (xs ++ ys) ≡ option_or (find p xs) (find p ys)
find-append p [] ys = refl
find-append p (x ∷ xs) ys = found_case (p x) x (find p xs) (find p ys) (find p (xs ++ ys)) (find-append p xs ys)

-- the first in a list of lists, one list more
pub find_flat_map_drop : {X Y : Type 0} (p : Y → Bool) (f : X → List Y) (xs : List X) (i : ℕ) (d : X) → i < length xs → find p (flat_map f (drop i xs)) ≡ option_or (find p (f (get_or xs i d))) (find p (flat_map f (drop (i + 1) xs)))
find_flat_map_drop p f xs i d lt = rw (drop_more xs i d lt) (find-append p (f (get_or xs i d)) (flat_map f (drop (i + 1) xs)))

any_step : (b : Bool) (n l : ℕ) (r : Bool) → r ≡ ltb n l → (b || r) ≡ ltb (cond (not b) (1 + n) 0) (suc l)
any_step true n l r e = sym (lt-ltb 0 (suc l) (omega arith))
any_step false n l r e = grind (arith, nat_tests)

-- some element passes where there is a first one
pub any_first : {X : Type 0} (p : X → Bool) (xs : List X) → list_any p xs ≡ ltb (position_or_len p xs) (length xs)
any_first p [] = refl
any_first p (x ∷ xs) = any_step (p x) (position_or_len p xs) (length xs) (list_any p xs) (any_first p xs)

some_cond : (b : Bool) (n : ℕ) (o : Option ℕ) → o ≡ cond b (Some n) None → is_some o ≡ b
some_cond true n o e = ap is_some e
some_cond false n o e = ap is_some e

pub any_position : {X : Type 0} (p : X → Bool) (xs : List X) (o : Option ℕ) → o ≡ position p xs → is_some o ≡ list_any p xs
any_position p xs o e = some_cond (ltb (position_or_len p xs) (length xs)) (position_or_len p xs) o e ∙ sym (any_first p xs)

pub nowhere_any : {X : Type 0} (p : X → Bool) (xs : List X) → position p xs ≡ None → list_any p xs ≡ false
nowhere_any p xs e = sym (any_position p xs None (sym e))

find_step : {X : Type 0} (b : Bool) (x : X) (r : Bool) (o : Option X) → r ≡ is_some o → (b || r) ≡ is_some (cond b (Some x) o)
find_step true x r o e = refl
find_step false x r o e = e

pub any_find : {X : Type 0} (p : X → Bool) (xs : List X) → list_any p xs ≡ is_some (find p xs)
any_find p [] = refl
any_find p (x ∷ xs) = find_step (p x) x (list_any p xs) (find p xs) (any_find p xs)

pub none_of : {X : Type 0} (o : Option X) → is_some o ≡ false → o ≡ None
none_of None e = refl
none_of (Some x) e = absurd cc

pub find_nowhere : {X : Type 0} (p : X → Bool) (xs : List X) → position p xs ≡ None → find p xs ≡ None
find_nowhere p xs e = none_of (find p xs) (sym (any_find p xs) ∙ nowhere_any p xs e)

pub list_any_same : {X : Type 0} (p q : X → Bool) (xs : List X) → ((x : X) → p x ≡ q x) → list_any p xs ≡ list_any q xs
list_any_same p q [] h = refl
list_any_same p q (x ∷ xs) h = rw (h x, list_any_same p q xs h) refl

-- the element at the first place passes
pub position_holds : {X : Type 0} (p : X → Bool) (xs : List X) (o : Option ℕ) → o ≡ position p xs → IfSome o (λ i. (d : X) → p (get_or xs i d) ≡ true)
position_holds p xs None e = tt
position_holds p xs (Some i) e = λ d. (position-Some p xs i d (sym e)).1

-- none passes
pub find_fails : {X : Type 0} (p : X → Bool) (xs : List X) → All (λ x. p x ≡ false) xs → find p xs ≡ None
find_fails p xs fails = none_of (find p xs) (sym (any_find p xs) ∙ list_any_none p xs fails)

-- only one passes
pub find_only : {X : Type 0} (p : X → Bool) (xs : List X) (i : ℕ) (d : X) → i < length xs → p (get_or xs i d) ≡ true → ((j : ℕ) → j < length xs → p (get_or xs j d) ≡ true → j ≡ i) → find p xs ≡ Some (get_or xs i d)
find_only p xs i d lt is only =
    let place : position_or_len p xs ≡ i = position_or_len_is p xs i d (omega (arith, lt)) (λ k before. not_passed (p (get_or xs k d)) (λ e. absurd (let same = only k (omega (arith, before, lt)) e in omega (arith, same, before)))) (λ h. is) in
    found_first p xs d (rw place lt) ∙ ap (λ (n : ℕ). Some (get_or xs n d)) place

-- two tests that agree on each element
pub list_any_agree : {X : Type 0} (p q : X → Bool) (xs : List X) → All (λ x. p x ≡ q x) xs → list_any p xs ≡ list_any q xs
list_any_agree p q [] h = refl
list_any_agree p q (x ∷ xs) h = rw (h 0 x (omega arith), list_any_agree p q xs (All-tail (λ y. p y ≡ q y) x xs h)) refl
