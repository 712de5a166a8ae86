-- A list in a strict order is known by its elements.
use Rattle.std.proofs.Common.{◌≡◌, ℕ, zero, suc, List, [], ◌∷◌, ◌⊎◌, inl, inr, refl, sym, ap, subst, ◌∙◌, arith}
use Rattle.std.specs.List.{AllPairs, Contains}
use Rattle.finite.proofs.Searching.{tail_pairs}
use Rattle.branch_ring.specs.declared.counted.Counted.{Counted}
use Rattle.branch_ring.specs.Profiles.{Precedes, IsProfile}

pub split_at : {X : Type 0} (x : X) (xs : List X) (e : X) → Contains (x ∷ xs) e → (e ≡ x) ⊎ Contains xs e
split_at x xs e (zero, lt, is) = inl (sym is)
split_at x xs e (suc k, lt, is) = inr (k, omega arith, is)

pub in_tail : {X : Type 0} (x : X) (xs : List X) (e : X) → Contains xs e → Contains (x ∷ xs) e
in_tail x xs e h = (suc h.0, omega (arith, h.1), h.2)

pub in_head : {X : Type 0} (x : X) (xs : List X) → Contains (x ∷ xs) x
in_head x xs = (0, omega arith, refl)

pub in_none : {X : Type 0} (e : X) → Contains [] e → ⊥
in_none e h = omega (arith, h.1)

-- each of one is in the other
abbrev pub Within : {X : Type 0} → List X → List X → Type 0
Within {X} xs ys = (e : X) → Contains xs e → Contains ys e

module _ {X : Type 0} (R : X → X → Type 0) (asym : (x y : X) → R x y → R y x → ⊥) where
  pub past_head : (x : X) (xs : List X) (e : X) → AllPairs R (x ∷ xs) → Contains xs e → R x e
  past_head x xs e up h = subst (λ y. R x y) h.2 (up 0 (suc h.0) e (omega arith) (omega (arith, h.1)))

  heads : (x : X) (xs : List X) (y : X) (ys : List X) → AllPairs R (x ∷ xs) → AllPairs R (y ∷ ys) → Within (x ∷ xs) (y ∷ ys) → Within (y ∷ ys) (x ∷ xs) → x ≡ y
  heads x xs y ys up vp h k =
      elim (split_at y ys x (h x (in_head x xs))) [
        | inl same ↦ same
        | inr later ↦ elim (split_at x xs y (k y (in_head y ys))) [
          | inl same ↦ sym same
          | inr after ↦ absurd (asym x y (past_head x xs y up after) (past_head y ys x vp later))
        ]
      ]

  tails : (x : X) (xs : List X) (y : X) (ys : List X) → AllPairs R (x ∷ xs) → x ≡ y → Within (x ∷ xs) (y ∷ ys) → Within xs ys
  tails x xs y ys up same h e c =
      elim (split_at y ys e (h e (in_tail x xs e c))) [
        | inl at ↦ (let r = past_head x xs e up c in let s : R x x = subst (λ z. R x z) (at ∙ sym same) r in absurd (asym x x s s))
        | inr there ↦ there
      ]

  pub one_ascending : (xs ys : List X) → AllPairs R xs → AllPairs R ys → Within xs ys → Within ys xs → xs ≡ ys
  one_ascending [] [] up vp h k = refl
  one_ascending [] (y ∷ ys) up vp h k = absurd (in_none y (k y (in_head y ys)))
  one_ascending (x ∷ xs) [] up vp h k = absurd (in_none x (h x (in_head x xs)))
  one_ascending (x ∷ xs) (y ∷ ys) up vp h k =
      let same : x ≡ y = heads x xs y ys up vp h k in
      let rest : xs ≡ ys = one_ascending xs ys (tail_pairs R x xs up) (tail_pairs R y ys vp) (tails x xs y ys up same h) (tails y ys x xs vp (sym same) k) in
      ap (λ z. z ∷ xs) same ∙ ap (λ zs. y ∷ zs) rest

pub precedes_once : (c d : Counted) → Precedes c d → Precedes d c → ⊥
precedes_once c d (inl l) (inl m) = omega arith
precedes_once c d (inl l) (inr m) = omega (arith, m.0)
precedes_once c d (inr l) (inl m) = omega (arith, l.0)
precedes_once c d (inr l) (inr m) = omega (arith, l.1, m.1)

pub one_profile : (pairs : List (ℕ × ℕ)) (xs ys : List Counted) → IsProfile pairs xs → IsProfile pairs ys → xs ≡ ys
one_profile pairs xs ys p q =
    one_ascending Precedes precedes_once xs ys p.ascends q.ascends (λ c h. (q.has c).1 ((p.has c).0 h)) (λ c h. (p.has c).1 ((q.has c).0 h))
