-- A list that ascends by a key is known by its elements.
use Rattle.std.proofs.Common.{◌≡◌, ℕ, zero, suc, ◌<◌, List, [], ◌∷◌, length, get_or, Option, ◌⊎◌, inl, inr, refl, sym, ap, subst, ◌∙◌, arith}
use Rattle.std.specs.List.{AllPairs, Contains}
use Rattle.finite.specs.Lists.{Lists}

split_at : {X : Type 0} (x : X) (xs : List X) (e : X) (k : ℕ) → k < length (x ∷ xs) → get_or (x ∷ xs) k e ≡ e → (e ≡ x) ⊎ Contains xs e
split_at x xs e zero lt is = inl (sym is)
split_at x xs e (suc k) lt is = inr (k, omega arith, is)

in_tail : {X : Type 0} (x : X) (xs : List X) (e : X) → Contains xs e → Contains (x ∷ xs) e
in_tail x xs e h = (suc h.0, omega (arith, h.1), h.2)

in_head : {X : Type 0} (x : X) (xs : List X) → Contains (x ∷ xs) x
in_head x xs = (0, omega arith, refl)

-- the keys ascend
abbrev Rise : {X : Type 0} → (X → ℕ) → List X → Type 0
Rise key xs = AllPairs (λ x y. key x < key y) xs

-- each of one is in the other
abbrev Within : {X : Type 0} → List X → List X → Type 0
Within {X} xs ys = (e : X) → Contains xs e → Contains ys e

tail_rises : {X : Type 0} (key : X → ℕ) (x : X) (xs : List X) → Rise key (x ∷ xs) → Rise key xs
tail_rises key x xs up i j d lt within = up (suc i) (suc j) d (omega arith) (omega arith)

above_head : {X : Type 0} (key : X → ℕ) (x : X) (xs : List X) (e : X) → Rise key (x ∷ xs) → Contains xs e → key x < key e
above_head key x xs e up h =
    let lt = up 0 (suc h.0) e (omega arith) (omega (arith, h.1)) in
    subst (λ y. key x < key y) h.2 lt

heads : {X : Type 0} (key : X → ℕ) (x : X) (xs : List X) (y : X) (ys : List X) → Rise key (x ∷ xs) → Rise key (y ∷ ys) → Within (x ∷ xs) (y ∷ ys) → Within (y ∷ ys) (x ∷ xs) → x ≡ y
heads key x xs y ys up vp h k =
    let a = h x (in_head x xs) in
    let b = k y (in_head y ys) in
    elim (split_at y ys x a.0 a.1 a.2) [
      | inl same ↦ same
      | inr later ↦ elim (split_at x xs y b.0 b.1 b.2) [
        | inl same ↦ sym same
        | inr after ↦ (
            let p = above_head key y ys x vp later in
            let q = above_head key x xs y up after in
            absurd (omega arith))
      ]
    ]

tails : {X : Type 0} (key : X → ℕ) (x : X) (xs : List X) (y : X) (ys : List X) → Rise key (x ∷ xs) → x ≡ y → Within (x ∷ xs) (y ∷ ys) → Within xs ys
tails key x xs y ys up same h e c =
    let a = h e (in_tail x xs e c) in
    let above = above_head key x xs e up c in
    elim (split_at y ys e a.0 a.1 a.2) [
      | inl at ↦ (
          let one_key : key e ≡ key x = ap key (at ∙ sym same) in
          absurd (omega arith))
      | inr there ↦ there
    ]

pub one_rising : {X : Type 0} (key : X → ℕ) (xs ys : List X) → Rise key xs → Rise key ys → Within xs ys → Within ys xs → xs ≡ ys
one_rising key [] [] up vp h k = refl
one_rising key [] (y ∷ ys) up vp h k = absurd (let c = k y (in_head y ys) in omega (arith, c.1))
one_rising key (x ∷ xs) [] up vp h k = absurd (let c = h x (in_head x xs) in omega (arith, c.1))
one_rising key (x ∷ xs) (y ∷ ys) up vp h k =
    let same : x ≡ y = heads key x xs y ys up vp h k in
    let rest : xs ≡ ys = one_rising key xs ys (tail_rises key x xs up) (tail_rises key y ys vp) (tails key x xs y ys up same h) (tails key y ys x xs vp (sym same) k) in
    ap (λ z. z ∷ xs) same ∙ ap (λ zs. y ∷ zs) rest

pub one_list : (f : ℕ → Option ℕ) (xs ys : List (ℕ × ℕ)) → Lists f xs → Lists f ys → xs ≡ ys
one_list f xs ys l m = one_rising (λ (e : ℕ × ℕ). e.0) xs ys l.ascending m.ascending (λ e c. (m.members e.0 e.1).0 ((l.members e.0 e.1).1 c)) (λ e c. (l.members e.0 e.1).0 ((m.members e.0 e.1).1 c))
