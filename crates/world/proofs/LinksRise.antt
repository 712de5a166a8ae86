-- The links of a memory ascend, so a search finds what is at a place.
use Rattle.std.proofs.Common.{◌≡◌, ℕ, zero, suc, ◌*◌, ◌<◌, ◌≤◌, Bool, true, false, List, [], ◌∷◌, length, map, get_or, refl, sym, ap, ◌∙◌, subst, inl, inr, arith, T}
use Rattle.std.specs.Prelude.{◌==◌, ◌&&◌, AllPairs}
use Rattle.std.specs.List.{AllWithin, list_any}
use Rattle.std.specs.List.Sorted.{IsNonDecreasingBy}
use Rattle.std.specs.Cmp.{ranked}
use Rattle.std.specs.Ordering.{nat_cmp, is_lt}
use Rattle.std.specs.declared.cmp.Ordering.{Ordering}
use Rattle.std.specs.declared.cmp.Ordering.TheVariants.{Less, Equal, Greater}
use Rattle.std.specs.FinMap.{entries, entries_sorted, is_sorted}
use Rattle.std.specs.FinMap.Entries.{below_all}
use Rattle.std.proofs.lemmas.Bool.{cases_order}
use Rattle.std.proofs.lemmas.Bool.Decides.{nat_tests}
use Rattle.std.proofs.lemmas.List.{get_or_default}
use Rattle.std.proofs.lemmas.List.Folds.{list_any_at, list_any_none}
use Rattle.oc_base.specs.declared.range.Range.{Range}
use Rattle.finite.proofs.Searching.{rises}
use Rattle.finite.specs.Maps.{items}
use Rattle.guest_mem.specs.Memory.{Memory}
use Rattle.guest_mem.specs.Access.{links_of}
use Rattle.image.specs.declared.ranges.Aim.{Aim}
use Rattle.layout.specs.Points.{in_range}
use Rattle.world.specs.Told.{leads_in}

first : (a b : Bool) → T (a && b) → T a
first true b p = tt
first false b p = absurd p

second : (a b : Bool) → T (a && b) → T b
second true b p = p
second false b p = absurd p

less : (o : Ordering) → T (is_lt o) → o ≡ Less
less Less p = refl
less Equal p = absurd p
less Greater p = absurd p

lower : (x y : ℕ) → T (is_lt (nat_cmp x y)) → x < y
lower x y p = ranked x y Less (sym (less (nat_cmp x y) p))

key_below : (x : ℕ) (es : List (ℕ × Unit {0})) (k d : ℕ) → T (below_all nat_cmp x es) → k < length es → x < get_or (map (λ (e : ℕ × Unit {0}). e.0) es) k d
key_below x [] k d h l = absurd (omega (arith, l))
key_below x (e ∷ es) zero d h l = lower x e.0 (first (is_lt (nat_cmp x e.0)) (below_all nat_cmp x es) h)
key_below x (e ∷ es) (suc k) d h l = key_below x es k d (second (is_lt (nat_cmp x e.0)) (below_all nat_cmp x es) h) (omega (arith, l))

-- each number of a set has its place
place_rises : (f : ℕ → ℕ × ℕ) → ((w : ℕ) → (f w).0 ≡ 8 * w) → (es : List (ℕ × Unit {0})) (i j : ℕ) (d : ℕ × ℕ) → T (is_sorted nat_cmp es) → i < j → j < length es
    → (get_or (map f (map (λ (e : ℕ × Unit {0}). e.0) es)) i d).0 < (get_or (map f (map (λ (e : ℕ × Unit {0}). e.0) es)) j d).0
place_rises g is [] i j d h lt l = absurd (omega (arith, l))
place_rises g is (e ∷ es) i zero d h lt l = absurd (omega (arith, lt))
place_rises g is (e ∷ es) zero (suc j) d h lt l = past es j (λ k m. key_below e.0 es k 0 (first (below_all nat_cmp e.0 es) (is_sorted nat_cmp es) h) m) (omega (arith, l))
  where
    past : (fs : List (ℕ × Unit {0})) (k : ℕ) → ((k : ℕ) → k < length fs → e.0 < get_or (map (λ (e : ℕ × Unit {0}). e.0) fs) k 0) → k < length fs
        → (g e.0).0 < (get_or (map g (map (λ (e : ℕ × Unit {0}). e.0) fs)) k d).0
    past [] k h l = absurd (omega (arith, l))
    past (f ∷ fs) zero h l = let m = h zero (omega arith) in let x = is e.0 in let y = is f.0 in omega (arith, m, x, y)
    past (f ∷ fs) (suc k) h l = past fs k (λ k m. h (suc k) (omega (arith, m))) (omega (arith, l))
place_rises g is (e ∷ es) (suc i) (suc j) d h lt l = place_rises g is es i j d (second (below_all nat_cmp e.0 es) (is_sorted nat_cmp es) h) (omega (arith, lt)) (omega (arith, l))

pub size_map : {A B : Type 0} (f : A → B) (xs : List A) → length (map f xs) ≡ length xs
size_map f [] = refl
size_map f (x ∷ xs) = ap suc (size_map f xs)

pub links_rise : (m : Memory) → AllPairs (λ (k l : ℕ × ℕ). k.0 < l.0) (links_of m)
unfolding items
links_rise m i j d lt l =
    place_rises _ (λ w. refl) (entries m.links) i j d (entries_sorted m.links) lt
    (subst (λ n. j < n) (size_map _ (items m.links) ∙ size_map (λ (e : ℕ × Unit {0}). e.0) (entries m.links)) l)

pub never_falls : (links : List (ℕ × ℕ)) → AllPairs (λ (k l : ℕ × ℕ). k.0 < l.0) links → IsNonDecreasingBy (λ (l : ℕ × ℕ). l.0) links
never_falls links rise = rises (λ (l : ℕ × ℕ). l.0) links rise

-- ---- the link at a slot's place
module _ (region : Range) (links : List (ℕ × ℕ)) (s : Aim) (rise : AllPairs (λ (k l : ℕ × ℕ). k.0 < l.0) links) (i : ℕ) (below : AllWithin (λ (l : ℕ × ℕ). l.0 < s.at) links 0 i)
    (others : AllWithin (λ (l : ℕ × ℕ). s.at ≤ l.0) links i (length links)) where
  abbrev test : ℕ × ℕ → Bool
  test l = (l.0 == s.at) && in_range region l.1

  other : (l : ℕ × ℕ) → (l.0 ≡ s.at → ⊥) → test l ≡ false
  other l n = by_test (l.0 == s.at) refl
    where
      by_test : (b : Bool) → (l.0 == s.at) ≡ b → (b && in_range region l.1) ≡ false
      by_test true e = absurd (n (grind (arith, nat_tests, e)))
      by_test false e = refl

  pub at_link : (d : ℕ × ℕ) → i < length links → leads_in region links s ≡ test (get_or links i d)
  at_link d l = by_test (test (get_or links i d)) refl
    where
      each : test (get_or links i d) ≡ false → (k : ℕ) (e : ℕ × ℕ) → k < length links → test (get_or links k e) ≡ false
      each t k e m =
          elim (cases_order k i) [
            | inl same ↦ subst (λ (x : ℕ × ℕ). test x ≡ false) (get_or_default links i d e l ∙ ap (λ j. get_or links j e) (sym same)) t
            | inr (inl q) ↦ (let p = below k e (omega arith) q in other (get_or links k e) (λ same. omega (arith, p, same)))
            | inr (inr q) ↦ (let p = others i e (omega arith) l in let r = rise i k e q m in other (get_or links k e) (λ same. omega (arith, p, r, same)))
          ]

      by_test : (b : Bool) → test (get_or links i d) ≡ b → list_any test links ≡ b
      by_test true t = list_any_at test links i d l t
      by_test false t = list_any_none test links (each t)

  pub no_link : length links ≤ i → leads_in region links s ≡ false
  no_link le = list_any_none test links (λ k e m. (let p = below k e (omega arith) (omega (arith, le, m)) in other (get_or links k e) (λ same. omega (arith, p, same))))
