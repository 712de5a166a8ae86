-- What a name begins with is seen without its end.
use Rattle.std.proofs.Common.{◌≡◌, ℕ, suc, ◌+◌, Bool, true, false, List, [], ◌∷◌, take, refl, ap, arith}
use Rattle.std.specs.Prelude.{◌&&◌, ◌||◌, ◌==◌, nat_eq}
use Rattle.std.specs.List.{list_any, starts_with, before_first, position_or_len}
use Rattle.std.proofs.lemmas.Bool.Decides.{nat_tests}

abbrev is_zero : ℕ → Bool
is_zero b = b == 0

take_one_more : (b : ℕ) (xs : List ℕ) (n : ℕ) → take (1 + n) (b ∷ xs) ≡ b ∷ take n xs
take_one_more b xs n = let e : 1 + n ≡ suc n = omega arith in ap (λ m. take m (b ∷ xs)) e

before_more : (x : ℕ) (xs : List ℕ) → is_zero x ≡ false → before_first is_zero (x ∷ xs) ≡ x ∷ before_first is_zero xs
before_more x xs e = rw e (take_one_more x xs (position_or_len is_zero xs))

before_stop : (x : ℕ) (xs : List ℕ) → is_zero x ≡ true → before_first is_zero (x ∷ xs) ≡ []
before_stop x xs e = rw e refl

unlike : (x y : ℕ) → is_zero x ≡ true → is_zero y ≡ false → nat_eq y x ≡ false
unlike x y e h = grind (arith, nat_tests)

both_fail : (a b : Bool) → (a || b) ≡ false → (a ≡ false) × (b ≡ false)
both_fail true b e = absurd cc
both_fail false b e = (refl, e)

begins_by : (b : Bool) (x y : ℕ) (xs head : List ℕ) → is_zero x ≡ b → is_zero y ≡ false → starts_with nat_eq xs head ≡ starts_with nat_eq (before_first is_zero xs) head → starts_with nat_eq (x ∷ xs) (y ∷ head) ≡ starts_with nat_eq (before_first is_zero (x ∷ xs)) (y ∷ head)
begins_by true x y xs head e h rest = rw (before_stop x xs e, unlike x y e h) refl
begins_by false x y xs head e h rest = rw (before_more x xs e) (ap (λ (b : Bool). nat_eq y x && b) rest)

-- bytes, none of them zero, begin the name where they begin all that follows its first place
pub begins : (xs head : List ℕ) → list_any is_zero head ≡ false → starts_with nat_eq xs head ≡ starts_with nat_eq (before_first is_zero xs) head
begins xs [] none = refl
begins [] (y ∷ head) none = refl
begins (x ∷ xs) (y ∷ head) none =
    let parts = both_fail (is_zero y) (list_any is_zero head) none in
    begins_by (is_zero x) x y xs head refl parts.0 (begins xs head parts.1)
