-- The edges of functions that stand alone, pair by pair.
use Rattle.std.proofs.Common.{◌≡◌, ℕ, zero, suc, ◌+◌, ◌<◌, ◌≤◌, ◌^◌, Bool, true, false, not, List, refl, sym, ap, subst, ◌∙◌, arith}
use Rattle.std.specs.Prelude.{◌==◌, ◌&&◌, if◌then◌else◌, slice_get, Option, Some}
use Rattle.std.proofs.lemmas.Bool.{and_parts}
use Rattle.image.specs.declared.ranges.Func.{Func}
use Rattle.branch_ring.specs.declared.counted.Counted.{Counted}
use Rattle.place_funcs.specs.declared.link.Link.{Link}
use Rattle.place_funcs.specs.Links.{lone, top_of, AreLone}
use Rattle.std.specs.Prelude.{All}
use Rattle.std.proofs.lemmas.List.Elements.{All-filter}
use Rattle.place_funcs.specs.Edges.{is_in}
use Rattle.place_funcs.specs.Rows.{is_callee, leaving, share}
use Rattle.place_funcs.proofs.LinkLaws.{alike, same_true}

lone_is : (x y n : ℕ) → 0 < n → lone x y n ≡ Some (record { weight = n; top = n; f = x; g = y })
lone_is x y zero h = absurd (omega (arith, h))
lone_is x y (suc n) h = refl

-- one link is put
module _ (old new : ℕ → ℕ → Option Link) (x y n : ℕ) (some : 0 < n) (put : (p q : ℕ) → new p q ≡ (if (p == x) && (q == y) then Some (record { weight = n; top = n; f = x; g = y }) else old p q)) where
  pub put_lone : AreLone old → AreLone new
  put_lone h p q = by_tests (p == x) (q == y) refl refl (put p q)
    where
      Lone : Option Link → Type 0
      Lone o = o ≡ lone p q (top_of o)

      by_tests : (s t : Bool) → (p == x) ≡ s → (q == y) ≡ t → new p q ≡ (if s && t then Some (record { weight = n; top = n; f = x; g = y }) else old p q) → new p q ≡ lone p q (top_of (new p q))
      by_tests true true e f k = subst Lone (sym k) (sym (ap (λ (u : ℕ). lone u q n) (same_true p x e) ∙ ap (λ (u : ℕ). lone x u n) (same_true q y f) ∙ lone_is x y n some))
      by_tests true false e f k = subst Lone (sym k) (h p q)
      by_tests false t e f k = subst Lone (sym k) (h p q)

  pub put_top : (count : ℕ) → n ≡ top_of (old x y) + count → (p q : ℕ) → top_of (new p q) ≡ top_of (old p q) + (if (p == x) && (q == y) then count else 0)
  put_top count is p q = by_tests (p == x) (q == y) refl refl (put p q)
    where
      by_tests : (s t : Bool) → (p == x) ≡ s → (q == y) ≡ t → new p q ≡ (if s && t then Some (record { weight = n; top = n; f = x; g = y }) else old p q) → top_of (new p q) ≡ top_of (old p q) + (if s && t then count else 0)
      by_tests true true e f k = ap top_of k ∙ is ∙ ap (λ (u : ℕ). top_of (old u y) + count) (sym (same_true p x e)) ∙ ap (λ (u : ℕ). top_of (old p u) + count) (sym (same_true q y f))
      by_tests true false e f k = let s : top_of (new p q) ≡ top_of (old p q) = ap top_of k in omega (arith, s)
      by_tests false t e f k = let s : top_of (new p q) ≡ top_of (old p q) = ap top_of k in omega (arith, s)

pub and_false : (b : Bool) → (b && false) ≡ false
and_false true = refl
and_false false = refl

module _ (funcs : List Func) (chosen : List ℕ) (f : ℕ) (row : Counted) where
  -- a pair that goes to no chosen function
  pub share_none : ((y : ℕ) → is_callee funcs chosen f row.to y ≡ false) → (p q : ℕ) → share funcs chosen f p q row ≡ 0
  share_none h p q =
      ap (λ (t : Bool). (if (p == f) && t then row.count else 0) + (if is_callee funcs chosen f row.to p && (q == f) then row.count else 0)) (h q)
      ∙ ap (λ (t : Bool). (if (p == f) && false then row.count else 0) + (if t && (q == f) then row.count else 0)) (h p)
      ∙ ap (λ (t : Bool). (if t then row.count else 0) + 0) (and_false (p == f))

  module _ (g : ℕ) (h : (y : ℕ) → is_callee funcs chosen f row.to y ≡ (y == g)) where
    pub share_some : (p q : ℕ) → share funcs chosen f p q row ≡ (if (p == f) && (q == g) then row.count else 0) + (if (p == g) && (q == f) then row.count else 0)
    share_some p q =
        ap (λ (t : Bool). (if (p == f) && t then row.count else 0) + (if is_callee funcs chosen f row.to p && (q == f) then row.count else 0)) (h q)
        ∙ ap (λ (t : Bool). (if (p == f) && (q == g) then row.count else 0) + (if t && (q == f) then row.count else 0)) (h p)

    -- it isn't f
    pub callee_apart : (g == f) ≡ false
    callee_apart =
        let e : is_callee funcs chosen f row.to g ≡ true = h g ∙ alike g in
        not_true (g == f) (and_parts _ _ (and_parts _ _ e).1).1
      where
        not_true : (t : Bool) → not t ≡ true → t ≡ false
        not_true true e = absurd cc
        not_true false e = refl

    pub share_there : row.count ≤ share funcs chosen f f g row
    share_there = let e : share funcs chosen f f g row ≡ row.count + (if (f == g) && (g == f) then row.count else 0) = share_some f g ∙ rw (alike f) (rw (alike g) refl) in omega (arith, e)

    pub share_back : row.count ≤ share funcs chosen f g f row
    share_back = let e : share funcs chosen f g f row ≡ (if (g == f) && (f == g) then row.count else 0) + row.count = share_some g f ∙ rw (alike g) (rw (alike f) refl) in omega (arith, e)

    -- both links are raised
    pub both_raised : (t0 t1 t2 : ℕ → ℕ → ℕ) → ((p q : ℕ) → t1 p q ≡ t0 p q + (if (p == f) && (q == g) then row.count else 0)) → ((p q : ℕ) → t2 p q ≡ t1 p q + (if (p == g) && (q == f) then row.count else 0)) → (p q : ℕ) → t2 p q ≡ t0 p q + share funcs chosen f p q row
    both_raised t0 t1 t2 a b p q = let u = a p q in let v = b p q in let w = share_some p q in omega (arith, u, v, w)

    pub back_small : (t0 t1 : ℕ → ℕ → ℕ) → ((p q : ℕ) → t1 p q ≡ t0 p q + (if (p == f) && (q == g) then row.count else 0)) → ((p q : ℕ) → t0 p q + share funcs chosen f p q row < 2 ^ 64) → t1 g f + row.count < 2 ^ 64
    back_small t0 t1 a k =
        let u : t1 g f ≡ t0 g f = a g f ∙ ap (λ (t : Bool). t0 g f + (if t && (f == g) then row.count else 0)) callee_apart ∙ nothing (t0 g f) in
        let v = k g f in
        let w = share_back in
        omega (arith, u, v, w)
      where
        nothing : (n : ℕ) → n + 0 ≡ n
        nothing n = omega arith

pub some_leave : (funcs : List Func) (profile rows : List Counted) (f : ℕ) → rows ≡ leaving funcs profile f → All (λ c. 0 < c.count) profile → All (λ c. 0 < c.count) rows
some_leave funcs profile rows f e h = subst (λ (xs : List Counted). All (λ c. 0 < c.count) xs) (sym e) (All-filter (λ (c : Counted). is_in c.from (slice_get funcs f)) (λ c. 0 < c.count) profile h)
