-- The pairs of a profile, one by one, make the edges.
use Rattle.std.proofs.Common.{◌≡◌, ℕ, ◌+◌, ◌<◌, ◌≤◌, ◌^◌, ◌-◌, Bool, true, false, not, List, [], ◌∷◌, length, ◌⊎◌, inl, inr, refl, sym, ap, subst, ◌∙◌, arith}
use Rattle.std.specs.Prelude.{◌==◌, ◌&&◌, ◌||◌, if◌then◌else◌, AllPairs, Contains, slice_get}
use Rattle.std.specs.List.{filter, sum_by}
use Rattle.std.proofs.lemmas.Bool.{and_parts}
use Rattle.std.proofs.lemmas.List.Sums.{sum_by-cons, sum_by-le-sum_by}
use Rattle.image.specs.declared.ranges.Func.{Func}
use Rattle.branch_ring.specs.declared.counted.Counted.{Counted}
use Rattle.branch_ring.specs.Profiles.{count_of}
use Rattle.place_funcs.specs.Edges.{is_in, is_start, count_to, calls, edge}
use Rattle.place_funcs.specs.Rows.{is_of, is_callee, leaving, share, share_of, IsGiven}
use Rattle.branch_ring.proofs.Ascending.{in_head, in_tail, in_none, split_at}
use Rattle.place_funcs.proofs.LinkLaws.{differ, alike, same_true}
use Rattle.place_funcs.proofs.Raised.{and_false}
use Rattle.place_funcs.proofs.UnderWay.{AreEdges}
use Rattle.place_funcs.proofs.Standing.{behind, tail_rises}

same_sum : {X : Type 0} (n m : X → ℕ) (xs : List X) → ((x : X) → n x ≡ m x) → sum_by n xs ≡ sum_by m xs
same_sum n m [] h = refl
same_sum n m (x ∷ xs) h =
    let a = sum_by-cons n x xs in
    let b = sum_by-cons m x xs in
    let e = h x in
    let r = same_sum n m xs h in
    omega (arith, a, b, e, r)

no_sum : {X : Type 0} (n : X → ℕ) (xs : List X) → ((x : X) → n x ≡ 0) → sum_by n xs ≡ 0
no_sum n [] h = refl
no_sum n (x ∷ xs) h = let a = sum_by-cons n x xs in let e = h x in let r = no_sum n xs h in omega (arith, a, e, r)

two_sums : {X : Type 0} (n m k : X → ℕ) (xs : List X) → ((x : X) → n x ≡ m x + k x) → sum_by n xs ≡ sum_by m xs + sum_by k xs
two_sums n m k [] h = refl
two_sums n m k (x ∷ xs) h =
    let here = h x in
    let rest = two_sums n m k xs h in
    let a = sum_by-cons n x xs in
    let b = sum_by-cons m x xs in
    let c = sum_by-cons k x xs in
    omega (arith, here, rest, a, b, c)

-- a sum over those that pass a test
sum_passed : {X : Type 0} (p q : X → Bool) (n : X → ℕ) (xs : List X) → sum_by (λ x. if q x then n x else 0) (filter p xs) ≡ sum_by (λ x. if p x && q x then n x else 0) xs
sum_passed p q n [] = refl
sum_passed {X} p q n (x ∷ xs) = by_test (p x) refl (sum_passed p q n xs)
  where
    all : sum_by (λ y. if p y && q y then n y else 0) (x ∷ xs) ≡ (if p x && q x then n x else 0) + sum_by (λ y. if p y && q y then n y else 0) xs
    all = sum_by-cons (λ y. if p y && q y then n y else 0) x xs

    by_test : (t : Bool) → p x ≡ t → (sum_by (λ y. if q y then n y else 0) (filter p xs) ≡ sum_by (λ y. if p y && q y then n y else 0) xs) → sum_by (λ y. if q y then n y else 0) (if t then x ∷ filter p xs else filter p xs) ≡ sum_by (λ y. if p y && q y then n y else 0) (x ∷ xs)
    by_test true e ih =
        let here = sum_by-cons (λ y. if q y then n y else 0) x (filter p xs) in
        let s : (if p x && q x then n x else 0) ≡ (if q x then n x else 0) = ap (λ (t : Bool). if t && q x then n x else 0) e in
        omega (arith, here, s, ih, all)
    by_test false e ih =
        let s : (if p x && q x then n x else 0) ≡ 0 = ap (λ (t : Bool). if t && q x then n x else 0) e in
        omega (arith, s, ih, all)

-- who is one of an ascending list stands there once
not_of : (fs : List ℕ) (x : ℕ) → ((g : ℕ) → Contains fs g → x < g) → is_of fs x ≡ false
not_of [] x h = refl
not_of (f ∷ fs) x h = rw (differ f x (λ e. let k = h f (in_head f fs) in omega (arith, k, e))) (not_of fs x (λ g i. h g (in_tail f fs g i)))

sum_at : (n : ℕ → ℕ) (x : ℕ) (fs : List ℕ) → AllPairs (λ f g. f < g) fs → sum_by (λ f. if x == f then n f else 0) fs ≡ (if is_of fs x then n x else 0)
sum_at n x [] up = refl
sum_at n x (f ∷ fs) up = by_test (f == x) refl (sum_at n x fs (tail_rises f fs up))
  where
    all : sum_by (λ g. if x == g then n g else 0) (f ∷ fs) ≡ (if x == f then n f else 0) + sum_by (λ g. if x == g then n g else 0) fs
    all = sum_by-cons (λ g. if x == g then n g else 0) f fs

    by_test : (t : Bool) → (f == x) ≡ t → (sum_by (λ g. if x == g then n g else 0) fs ≡ (if is_of fs x then n x else 0)) → sum_by (λ g. if x == g then n g else 0) (f ∷ fs) ≡ (if t || is_of fs x then n x else 0)
    by_test true e ih =
        let s = same_true f x e in
        let here : (if x == f then n f else 0) ≡ n x = ap (λ (u : ℕ). if x == u then n u else 0) s ∙ ap (λ (t : Bool). if t then n x else 0) (alike x) in
        let out : (if is_of fs x then n x else 0) ≡ 0 = ap (λ (t : Bool). if t then n x else 0) (not_of fs x (λ g i. let k = behind f fs g up i in omega (arith, k, s))) in
        omega (arith, here, out, ih, all)
    by_test false e ih =
        let here : (if x == f then n f else 0) ≡ 0 = ap (λ (t : Bool). if t then n f else 0) (differ x f (λ s. unlike f x e (sym s))) in
        omega (arith, here, ih, all)
      where
        unlike : (u v : ℕ) → (u == v) ≡ false → u ≡ v → ⊥
        unlike u v e s = let t : true ≡ false = sym (alike u) ∙ ap (λ (w : ℕ). u == w) s ∙ e in cc

pub of_in : (fs : List ℕ) (x : ℕ) → Contains fs x → is_of fs x ≡ true
of_in [] x h = absurd (in_none x h)
of_in (f ∷ fs) x h = by_place (split_at f fs x h) (λ i. of_in fs x i)
  where
    or_true : (b : Bool) → (b || true) ≡ true
    or_true true = refl
    or_true false = refl

    by_place : (x ≡ f) ⊎ Contains fs x → (Contains fs x → is_of fs x ≡ true) → is_of (f ∷ fs) x ≡ true
    by_place (inl e) ih = ap (λ (u : ℕ). (u == x) || is_of fs x) (sym e) ∙ ap (λ (t : Bool). t || is_of fs x) (alike x)
    by_place (inr i) ih = ap (λ (t : Bool). (f == x) || t) (ih i) ∙ or_true (f == x)

pub in_of : (fs : List ℕ) (x : ℕ) → is_of fs x ≡ true → Contains fs x
in_of [] x e = absurd cc
in_of (f ∷ fs) x e = by_test (f == x) refl e (λ k. in_of fs x k)
  where
    by_test : (t : Bool) → (f == x) ≡ t → (t || is_of fs x) ≡ true → (is_of fs x ≡ true → Contains fs x) → Contains (f ∷ fs) x
    by_test true s k ih = subst (λ (u : ℕ). Contains (f ∷ fs) u) (same_true f x s) (in_head f fs)
    by_test false s k ih = in_tail f fs x (ih k)

not_false : (t : Bool) → not t ≡ false → t ≡ true
not_false true e = refl
not_false false e = absurd cc

not_true : (t : Bool) → not t ≡ true → t ≡ false
not_true true e = absurd cc
not_true false e = refl

module _ (funcs : List Func) (profile : List Counted) (chosen : List ℕ) (given : IsGiven funcs profile chosen) where
  -- how often the profile goes from f to the start of y, if y may be called
  abbrev pub called : ℕ → ℕ → ℕ
  called f y = sum_by (λ c. if is_callee funcs chosen f c.to y then c.count else 0) (leaving funcs profile f)

  called_yes : (f y : ℕ) → is_of chosen y ≡ true → (y == f) ≡ false → called f y ≡ calls funcs profile f y
  called_yes f y e s =
      same_sum (λ c. if is_callee funcs chosen f c.to y then c.count else 0) (λ c. if is_start c.to (slice_get funcs y) then c.count else 0) (leaving funcs profile f)
      (λ c. ap (λ (t : Bool). if is_start c.to (slice_get funcs y) && (t && not (y == f)) then c.count else 0) e ∙ ap (λ (t : Bool). if is_start c.to (slice_get funcs y) && not t then c.count else 0) s ∙ ap (λ (t : Bool). if t then c.count else 0) (and_true (is_start c.to (slice_get funcs y))))
      ∙ sum_passed (λ (c : Counted). is_in c.from (slice_get funcs f)) (λ (c : Counted). is_start c.to (slice_get funcs y)) (λ (c : Counted). c.count) profile
    where
      and_true : (b : Bool) → (b && true) ≡ b
      and_true true = refl
      and_true false = refl

  called_none : (f y : ℕ) → (is_of chosen y && not (y == f)) ≡ false → called f y ≡ 0
  called_none f y e =
      no_sum (λ c. if is_callee funcs chosen f c.to y then c.count else 0) (leaving funcs profile f)
      (λ c. ap (λ (t : Bool). if is_start c.to (slice_get funcs y) && t then c.count else 0) e ∙ ap (λ (t : Bool). if t then c.count else 0) (and_false (is_start c.to (slice_get funcs y))))

  from_one : (x y f : ℕ) → share_of funcs chosen profile x y f ≡ (if x == f then called f y else 0) + (if y == f then called f x else 0)
  from_one x y f = two_sums (share funcs chosen f x y) (λ c. if (x == f) && is_callee funcs chosen f c.to y then c.count else 0) (λ c. if is_callee funcs chosen f c.to x && (y == f) then c.count else 0) (leaving funcs profile f) (λ c. refl) ∙ by_tests (x == f) (y == f)
    where
      and_true : (b : Bool) → (b && true) ≡ b
      and_true true = refl
      and_true false = refl

      one : (s : Bool) → sum_by (λ c. if s && is_callee funcs chosen f c.to y then c.count else 0) (leaving funcs profile f) ≡ (if s then called f y else 0)
      one true = refl
      one false = no_sum (λ c. 0) (leaving funcs profile f) (λ c. refl)

      other : (t : Bool) → sum_by (λ c. if is_callee funcs chosen f c.to x && t then c.count else 0) (leaving funcs profile f) ≡ (if t then called f x else 0)
      other true = same_sum (λ c. if is_callee funcs chosen f c.to x && true then c.count else 0) (λ c. if is_callee funcs chosen f c.to x then c.count else 0) (leaving funcs profile f) (λ c. ap (λ (t : Bool). if t then c.count else 0) (and_true (is_callee funcs chosen f c.to x)))
      other false = no_sum (λ c. if is_callee funcs chosen f c.to x && false then c.count else 0) (leaving funcs profile f) (λ c. ap (λ (t : Bool). if t then c.count else 0) (and_false (is_callee funcs chosen f c.to x)))

      by_tests : (s t : Bool) → sum_by (λ c. if s && is_callee funcs chosen f c.to y then c.count else 0) (leaving funcs profile f) + sum_by (λ c. if is_callee funcs chosen f c.to x && t then c.count else 0) (leaving funcs profile f) ≡ (if s then called f y else 0) + (if t then called f x else 0)
      by_tests s t = let a = one s in let b = other t in omega (arith, a, b)

  abbrev pub total : ℕ → ℕ → ℕ
  total x y = sum_by (share_of funcs chosen profile x y) chosen

  total_is : (x y : ℕ) → total x y ≡ (if is_of chosen x then called x y else 0) + (if is_of chosen y then called y x else 0)
  total_is x y =
      let a = two_sums (share_of funcs chosen profile x y) (λ f. if x == f then called f y else 0) (λ f. if y == f then called f x else 0) chosen (from_one x y) in
      let b = sum_at (λ f. called f y) x chosen given.ascend in
      let c = sum_at (λ f. called f x) y chosen given.ascend in
      omega (arith, a, b, c)

  pub total_edge : (x y : ℕ) → is_of chosen x ≡ true → is_of chosen y ≡ true → (x == y) ≡ false → total x y ≡ edge funcs profile x y
  unfolding edge
  total_edge x y e f s =
      let turned : (y == x) ≡ false = differ y x (λ t. unlike x y s (sym t)) in
      let a = total_is x y in
      let p : (if is_of chosen x then called x y else 0) ≡ called x y = ap (λ (t : Bool). if t then called x y else 0) e in
      let q : (if is_of chosen y then called y x else 0) ≡ called y x = ap (λ (t : Bool). if t then called y x else 0) f in
      let b = called_yes x y f turned in
      let c = called_yes y x e s in
      omega (arith, a, p, q, b, c)
    where
      unlike : (u v : ℕ) → (u == v) ≡ false → u ≡ v → ⊥
      unlike u v e s = let t : true ≡ false = sym (alike u) ∙ ap (λ (w : ℕ). u == w) s ∙ e in cc

  pub total_none : (x y : ℕ) → (is_of chosen x && (is_of chosen y && not (x == y))) ≡ false → total x y ≡ 0
  total_none x y e = by_tests (is_of chosen x) (is_of chosen y) refl refl e (total_is x y)
    where
      by_tests : (s t : Bool) → is_of chosen x ≡ s → is_of chosen y ≡ t → (s && (t && not (x == y))) ≡ false → total x y ≡ (if s then called x y else 0) + (if t then called y x else 0) → total x y ≡ 0
      by_tests false false p q k a = omega (arith, a)
      by_tests false true p q k a = let z = called_none y x (ap (λ (t : Bool). t && not (x == y)) p) in omega (arith, a, z)
      by_tests true false p q k a = let z = called_none x y (ap (λ (t : Bool). t && not (y == x)) q) in omega (arith, a, z)
      by_tests true true p q k a =
          let s : (x == y) ≡ true = not_false (x == y) k in
          let same = same_true x y s in
          let turned : (y == x) ≡ true = ap (λ (u : ℕ). y == u) same ∙ alike y in
          let z = called_none x y (ap (λ (t : Bool). is_of chosen y && not t) turned ∙ and_false (is_of chosen y)) in
          let w = called_none y x (ap (λ (t : Bool). is_of chosen x && not t) s ∙ and_false (is_of chosen x)) in
          omega (arith, a, z, w)

  low_calls : (f g : ℕ) → calls funcs profile f g < 2 ^ 62
  low_calls f g = let a = sum_by-le-sum_by (count_to funcs profile f g) count_of profile (λ c. low (is_in c.from (slice_get funcs f) && is_start c.to (slice_get funcs g)) c.count) in let b = given.kept.small in omega (arith, a, b)
    where
      low : (t : Bool) (n : ℕ) → (if t then n else 0) ≤ n
      low true n = omega arith
      low false n = omega arith

  pub edges : AreEdges (edge funcs profile) chosen
  unfolding edge
  edges =
      record {
        even = λ f g. omega arith;
        low = λ f g. (let a = low_calls f g in let b = low_calls g f in omega (arith, a, b));
        few = few;
        below = λ k d lt. (let h = given.below k d lt in let n = given.few in omega (arith, h, n));
      }
    where
      rises : (fs : List ℕ) (m : ℕ) → AllPairs (λ f g. f < g) fs → ((g : ℕ) → Contains fs g → m ≤ g) → (n : ℕ) → ((g : ℕ) → Contains fs g → g < n) → m ≤ n → length fs + m ≤ n
      rises [] m up lo n hi le = omega (arith, le)
      rises (f ∷ fs) m up lo n hi le =
          let a = lo f (in_head f fs) in
          let b = hi f (in_head f fs) in
          let r = rises fs (f + 1) (tail_rises f fs up) (λ g i. (let k = behind f fs g up i in omega (arith, k))) n (λ g i. hi g (in_tail f fs g i)) (omega (arith, b)) in
          omega (arith, a, b, r)

      few : length chosen ≤ 2 ^ 32 - 1
      few =
          let r = rises chosen 0 given.ascend (λ g i. omega arith) (length funcs) (λ g i. (let h = given.below i.0 g i.1 in omega (arith, subst (λ (u : ℕ). u < length funcs) i.2 h))) (omega arith) in
          let n = given.few in
          omega (arith, r, n)

  pub total_small : (x y : ℕ) → total x y < 2 ^ 64
  total_small x y = by_test (is_of chosen x && (is_of chosen y && not (x == y))) refl
    where
      by_test : (t : Bool) → (is_of chosen x && (is_of chosen y && not (x == y))) ≡ t → total x y < 2 ^ 64
      by_test true e =
          let p = and_parts (is_of chosen x) (is_of chosen y && not (x == y)) e in
          let q = and_parts (is_of chosen y) (not (x == y)) p.1 in
          let a = total_edge x y p.0 q.0 (not_true (x == y) q.1) in
          let b = edges.low x y in
          omega (arith, a, b)
      by_test false e = let a = total_none x y e in omega (arith, a)
