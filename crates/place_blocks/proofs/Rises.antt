-- Lists that rise: sorted ones of which no two elements are alike.
use Rattle.std.proofs.Common.{◌≡◌, ℕ, zero, suc, ◌+◌, ◌-◌, ◌<◌, Bool, false, List, [], ◌∷◌, map, length, get_or, subst, arith}
use Rattle.std.specs.List.{All, AllPairs, AllByRecursion, IsDistinct}
use Rattle.place_blocks.specs.Rising.{Rises}

-- what holds of neighbours, and goes on, holds of any two
module _ {X : Type 0} (R : X → X → Type 0) (on : (x y z : X) → R x y → R y z → R x z) (xs : List X)
    (near : (k : ℕ) (d : X) → k + 1 < length xs → R (get_or xs k d) (get_or xs (k + 1) d)) where
  onward : (n i : ℕ) (d : X) → i + suc n < length xs → R (get_or xs i d) (get_or xs (i + suc n) d)
  onward zero i d lt =
      let e : i + 1 ≡ i + suc zero = omega arith in
      subst (λ (k : ℕ). R (get_or xs i d) (get_or xs k d)) e (near i d (omega (arith, lt)))
  onward (suc n) i d lt =
      let e : i + suc n + 1 ≡ i + suc (suc n) = omega arith in
      on (get_or xs i d) (get_or xs (i + suc n) d) (get_or xs (i + suc (suc n)) d) (onward n i d (omega (arith, lt)))
      (subst (λ (k : ℕ). R (get_or xs (i + suc n) d) (get_or xs k d)) e (near (i + suc n) d (omega (arith, lt))))

  pub all_pairs : AllPairs R xs
  all_pairs i j d a b =
      let e : i + suc (j - suc i) ≡ j = omega (arith, a) in
      subst (λ (k : ℕ). R (get_or xs i d) (get_or xs k d)) e (onward (j - suc i) i d (omega (arith, a, b)))

module _ {X : Type 0} (R P : X → X → Type 0) (Q : X → Type 0) (same : X → X → Bool) (up : (x y : X) → Q x → Q y → R x y → same x y ≡ false → P x y) where
  above : (x : X) (xs : List X) → Q x → AllByRecursion Q xs → ((j : ℕ) (d : X) → j < length xs → R x (get_or xs j d)) → AllByRecursion (λ y. same x y ≡ false) xs → AllByRecursion (P x) xs
  above x [] q qs r s = tt
  above x (y ∷ ys) q qs r s = (up x y q qs.0 (r 0 y (omega arith)) s.0, above x ys q qs.1 (λ j d lt. r (suc j) d (omega (arith, lt))) s.1)

  pub rises_from : (xs : List X) → AllByRecursion Q xs → AllPairs R xs → IsDistinct same xs → Rises P xs
  unfolding IsDistinct
  rises_from [] q r s = tt
  rises_from (x ∷ xs) q r s = (
    above x xs q.0 q.1 (λ j d lt. r 0 (suc j) d (omega arith) (omega (arith, lt))) s.0,
    rises_from xs q.1 (λ i j d a b. r (suc i) (suc j) d (omega (arith, a)) (omega (arith, b))) s.1,
  )

all_map : {X Y : Type 0} (f : X → Y) (P : Y → Type 0) (xs : List X) → AllByRecursion (λ x. P (f x)) xs → AllByRecursion P (map f xs)
all_map f P [] h = tt
all_map f P (x ∷ xs) h = (h.0, all_map f P xs h.1)

pub rises_map : {X Y : Type 0} (f : X → Y) (P : Y → Y → Type 0) (xs : List X) → Rises (λ x y. P (f x) (f y)) xs → Rises P (map f xs)
rises_map f P [] h = tt
rises_map f P (x ∷ xs) h = (all_map f (P (f x)) xs h.0, rises_map f P xs h.1)

pub by_recursion : {X : Type 0} (P : X → Type 0) (xs : List X) → All P xs → AllByRecursion P xs
by_recursion P [] h = tt
by_recursion P (x ∷ xs) h = (h 0 x (omega arith), by_recursion P xs (λ k d lt. h (suc k) d (omega (arith, lt))))

pub by_place : {X : Type 0} (P : X → Type 0) (xs : List X) → AllByRecursion P xs → All P xs
by_place P [] h = λ k d lt. absurd (omega (arith, lt))
by_place P (x ∷ xs) h = place (by_place P xs h.1)
  where
    place : All P xs → All P (x ∷ xs)
    place rest zero d lt = h.0
    place rest (suc k) d lt = rest k d (omega (arith, lt))

differ_map : {X Y : Type 0} (f : X → Y) (same : Y → Y → Bool) (x : X) (ys : List X) → AllByRecursion (λ y. same (f x) y ≡ false) (map f ys) → AllByRecursion (λ y. same (f x) (f y) ≡ false) ys
differ_map f same x [] g = tt
differ_map f same x (y ∷ ys) g = (g.0, differ_map f same x ys g.1)

pub distinct_map : {X Y : Type 0} (f : X → Y) (same : Y → Y → Bool) (xs : List X) → IsDistinct same (map f xs) → IsDistinct (λ x y. same (f x) (f y)) xs
unfolding IsDistinct
distinct_map f same [] h = tt
distinct_map f same (x ∷ xs) h = (differ_map f same x xs h.0, distinct_map f same xs h.1)
