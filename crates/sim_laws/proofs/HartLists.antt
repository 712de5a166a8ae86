-- Two lists whose elements are related place by place, and lists of harts.
use Rattle.std.proofs.Common.{◌≡◌, ◌≢◌, ℕ, zero, suc, Bool, true, List, [], ◌∷◌, ◌++◌, map, refl, ap, subst}
use Rattle.std.specs.Prelude.{Some, None, ◌&&◌, ◌||◌, slice_get, slice_set}
use Rattle.std.specs.List.{list_any, list_all}
use Rattle.hart.specs.declared.hart.Hart.{Hart}
use Rattle.machine.specs.Harts.{is_live, hart_in}
use Rattle.sim_laws.specs.Related.{Both, neither, found}

module _ {A B : Type 0} {R : A → B → Type 0} where
  pub no_left : {b : B} → Both R None (Some b) → ⊥
  no_left k = elim k [ ]

  pub no_right : {a : A} → Both R (Some a) None → ⊥
  no_right k = elim k [ ]

  pub found_both : {a : A} {b : B} → Both R (Some a) (Some b) → R a b
  found_both (found r) = r

  -- a write at one index of both lists
  pub set_both : (xs : List A) (ys : List B) (h : ℕ) (x : A) (y : B) → R x y → ((k : ℕ) → Both R (slice_get xs k) (slice_get ys k)) → (k : ℕ) → Both R (slice_get (slice_set xs h x) k) (slice_get (slice_set ys h y) k)
  set_both [] [] h x y r b k = b k
  set_both [] (v ∷ ys) h x y r b k = absurd (no_left (b 0))
  set_both (v ∷ xs) [] h x y r b k = absurd (no_right (b 0))
  set_both (v ∷ xs) (w ∷ ys) zero x y r b zero = found r
  set_both (v ∷ xs) (w ∷ ys) zero x y r b (suc k) = b (suc k)
  set_both (v ∷ xs) (w ∷ ys) (suc h) x y r b zero = b zero
  set_both (v ∷ xs) (w ∷ ys) (suc h) x y r b (suc k) = set_both xs ys h x y r (λ j. b (suc j)) k

  -- the same change to each element of both
  pub map_both : (f : A → A) (g : B → B) → ((a : A) (b : B) → R a b → R (f a) (g b)) → (xs : List A) (ys : List B) → ((k : ℕ) → Both R (slice_get xs k) (slice_get ys k)) → (k : ℕ) → Both R (slice_get (map f xs) k) (slice_get (map g ys) k)
  map_both f g h [] [] b k = b k
  map_both f g h [] (v ∷ ys) b k = absurd (no_left (b 0))
  map_both f g h (v ∷ xs) [] b k = absurd (no_right (b 0))
  map_both f g h (v ∷ xs) (w ∷ ys) b zero = found (h v w (found_both (b 0)))
  map_both f g h (v ∷ xs) (w ∷ ys) b (suc k) = map_both f g h xs ys (λ j. b (suc j)) k

  -- a write to the left list alone
  pub set_left : (xs : List A) (ys : List B) (h : ℕ) (x : A) (y : B) → R x y → slice_get ys h ≡ Some y → ((k : ℕ) → Both R (slice_get xs k) (slice_get ys k)) → (k : ℕ) → Both R (slice_get (slice_set xs h x) k) (slice_get ys k)
  set_left [] ys h x y r g b k = b k
  set_left (v ∷ xs) [] h x y r g b k = absurd (no_right (b 0))
  set_left (v ∷ xs) (w ∷ ys) zero x y r g b zero = rw g (found r)
  set_left (v ∷ xs) (w ∷ ys) zero x y r g b (suc k) = b (suc k)
  set_left (v ∷ xs) (w ∷ ys) (suc h) x y r g b zero = b zero
  set_left (v ∷ xs) (w ∷ ys) (suc h) x y r g b (suc k) = set_left xs ys h x y r g (λ j. b (suc j)) k

  -- one more on both sides
  pub push_both : (xs : List A) (ys : List B) (x : A) (y : B) → R x y → ((k : ℕ) → Both R (slice_get xs k) (slice_get ys k)) → (k : ℕ) → Both R (slice_get (xs ++ x ∷ []) k) (slice_get (ys ++ y ∷ []) k)
  push_both [] [] x y r b zero = found r
  push_both [] [] x y r b (suc k) = neither
  push_both [] (w ∷ ys) x y r b k = absurd (no_left (b 0))
  push_both (v ∷ xs) [] x y r b k = absurd (no_right (b 0))
  push_both (v ∷ xs) (w ∷ ys) x y r b zero = b zero
  push_both (v ∷ xs) (w ∷ ys) x y r b (suc k) = push_both xs ys x y r (λ j. b (suc j)) k

  -- a test that related elements pass alike
  pub any_same : (f : A → Bool) (g : B → Bool) → ((a : A) (b : B) → R a b → f a ≡ g b) → (xs : List A) (ys : List B) → ((k : ℕ) → Both R (slice_get xs k) (slice_get ys k)) → list_any f xs ≡ list_any g ys
  any_same f g h [] [] b = refl
  any_same f g h [] (y ∷ ys) b = absurd (no_left (b 0))
  any_same f g h (x ∷ xs) [] b = absurd (no_right (b 0))
  any_same f g h (x ∷ xs) (y ∷ ys) b = let e = h x y (found_both (b 0)) in let q = any_same f g h xs ys (λ k. b (suc k)) in λ i. e i || q i

  pub all_same : (f : A → Bool) (g : B → Bool) → ((a : A) (b : B) → R a b → f a ≡ g b) → (xs : List A) (ys : List B) → ((k : ℕ) → Both R (slice_get xs k) (slice_get ys k)) → list_all f xs ≡ list_all g ys
  all_same f g h [] [] b = refl
  all_same f g h [] (y ∷ ys) b = absurd (no_left (b 0))
  all_same f g h (x ∷ xs) [] b = absurd (no_right (b 0))
  all_same f g h (x ∷ xs) (y ∷ ys) b = let e = h x y (found_both (b 0)) in let q = all_same f g h xs ys (λ k. b (suc k)) in λ i. e i && q i

  -- what is found at one place of both
  pub found_at : (xs : List A) (ys : List B) (h : ℕ) (x : A) (y : B) → slice_get xs h ≡ Some x → slice_get ys h ≡ Some y → ((k : ℕ) → Both R (slice_get xs k) (slice_get ys k)) → R x y
  found_at xs ys h x y e f b = found_both (subst (λ a. Both R a (Some y)) e (subst (λ a. Both R (slice_get xs h) a) f (b h)))

-- ---- one hart of a list
pub hart_at : (hs : List Hart) (h : ℕ) (x : Hart) → slice_get hs h ≡ Some x → hart_in hs h ≡ x
hart_at [] h x e = absurd (cc)
hart_at (y ∷ ys) zero x e = cc
hart_at (y ∷ ys) (suc h) x e = hart_at ys h x e

pub live_at : (hs : List Hart) (h : ℕ) → is_live (hart_in hs h).status ≡ true → slice_get hs h ≡ Some (hart_in hs h)
live_at [] h e = absurd (cc)
live_at (y ∷ ys) zero e = refl
live_at (y ∷ ys) (suc h) e = live_at ys h e

pub get_set : (hs : List Hart) (h : ℕ) (x y : Hart) → slice_get hs h ≡ Some x → slice_get (slice_set hs h y) h ≡ Some y
get_set [] h x y e = absurd (cc)
get_set (z ∷ zs) zero x y e = refl
get_set (z ∷ zs) (suc h) x y e = get_set zs h x y e

pub get_other : (hs : List Hart) (h k : ℕ) (y : Hart) → k ≢ h → slice_get (slice_set hs h y) k ≡ slice_get hs k
get_other [] h k y n = refl
get_other (z ∷ zs) zero zero y n = absurd (n refl)
get_other (z ∷ zs) zero (suc k) y n = refl
get_other (z ∷ zs) (suc h) zero y n = refl
get_other (z ∷ zs) (suc h) (suc k) y n = get_other zs h k y (λ e. n (ap suc e))
