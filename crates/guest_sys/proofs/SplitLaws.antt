-- The waiting harts, parted one after the other.
use Rattle.std.proofs.Common.{◌≡◌, ℕ, zero, suc, ◌-◌, ◌<◌, ◌≤◌, true, false, List, [], ◌∷◌, ◌++◌, refl, ap, sym, ◌∙◌, append_assoc, arith}
use Rattle.std.proofs.lemmas.Bool.{eq-eqb, ne_eqb}
use Rattle.guest_sys.specs.declared.state.Waiter.{Waiter}
use Rattle.guest_sys.specs.Waiting.{waits_at, first_at, others}

pub none_first : (a : ℕ) (ws : List Waiter) → others 0 a ws ≡ ws
none_first a [] = refl
none_first a (w ∷ ws) = refl

-- one that is among the first
pub first_in : (n a : ℕ) (w : Waiter) (ws : List Waiter) → 0 < n → waits_at a w ≡ true → first_at n a (w ∷ ws) ≡ w ∷ first_at (n - 1) a ws
first_in zero a w ws some yes_at = absurd (omega arith)
first_in (suc n) a w ws some yes_at = let e : suc n - 1 ≡ n = omega arith in rw (yes_at, e) refl

pub others_in : (n a : ℕ) (w : Waiter) (ws : List Waiter) → 0 < n → waits_at a w ≡ true → others n a (w ∷ ws) ≡ others (n - 1) a ws
others_in zero a w ws some yes_at = absurd (omega arith)
others_in (suc n) a w ws some yes_at = let e : suc n - 1 ≡ n = omega arith in rw (yes_at, e) refl

-- one that waits elsewhere
pub first_out : (n a : ℕ) (w : Waiter) (ws : List Waiter) → waits_at a w ≡ false → first_at n a (w ∷ ws) ≡ first_at n a ws
first_out n a w ws elsewhere = rw elsewhere refl

pub others_out : (n a : ℕ) (w : Waiter) (ws : List Waiter) → waits_at a w ≡ false → others n a (w ∷ ws) ≡ w ∷ others n a ws
others_out zero a w ws elsewhere = ap (λ (xs : List Waiter). w ∷ xs) (sym (none_first a ws))
others_out (suc n) a w ws elsewhere = rw elsewhere refl

-- when there are enough
pub first_past : (n a : ℕ) (w : Waiter) (ws : List Waiter) → n ≤ 0 → first_at n a (w ∷ ws) ≡ first_at n a ws
first_past zero a w ws enough = refl
first_past (suc n) a w ws enough = absurd (omega arith)

pub others_past : (n a : ℕ) (w : Waiter) (ws : List Waiter) → n ≤ 0 → others n a (w ∷ ws) ≡ w ∷ others n a ws
others_past zero a w ws enough = ap (λ (xs : List Waiter). w ∷ xs) (sym (none_first a ws))
others_past (suc n) a w ws enough = absurd (omega arith)

pub meets : (a : ℕ) (w : Waiter) → w.at ≡ a → waits_at a w ≡ true
meets a w e = eq-eqb w.at a e

pub misses : (a : ℕ) (w : Waiter) → (w.at ≡ a → ⊥) → waits_at a w ≡ false
misses a w e = ne_eqb w.at a e

-- both lists, and what the harts still to come add to them
abbrev pub AreParted : (n a : ℕ) (xs ys now all_first all_others : List Waiter) → Type 0
AreParted n a xs ys now all_first all_others = (xs ++ first_at n a now ≡ all_first) × (ys ++ others n a now ≡ all_others)

pub one_first : (n n' a : ℕ) (w : Waiter) (xs xs' ys ys' now next all_first all_others : List Waiter)
    → now ≡ w ∷ next → 0 < n → waits_at a w ≡ true → n' ≡ n - 1 → xs' ≡ xs ++ w ∷ [] → ys' ≡ ys
    → AreParted n a xs ys now all_first all_others → AreParted n' a xs' ys' next all_first all_others
one_first n n' a w xs xs' ys ys' now next all_first all_others is some there en ex ey h =
    let assoc = append_assoc xs (w ∷ []) (first_at (n - 1) a next) in
    let first = first_in n a w next some there in
    let other = others_in n a w next some there in
    let before : xs ++ first_at n a (w ∷ next) ≡ all_first = ap (λ z. xs ++ first_at n a z) (sym is) ∙ h.0 in
    let behind : ys ++ others n a (w ∷ next) ≡ all_others = ap (λ z. ys ++ others n a z) (sym is) ∙ h.1 in
    let joined : (xs ++ w ∷ []) ++ first_at (n - 1) a next ≡ all_first = assoc ∙ ap (λ z. xs ++ z) (sym first) ∙ before in
    let kept : ys ++ others (n - 1) a next ≡ all_others = ap (λ z. ys ++ z) (sym other) ∙ behind in
    (rw (en, ex) joined, rw (en, ey) kept)

pub one_other : (n a : ℕ) (w : Waiter) (xs xs' ys ys' now next all_first all_others : List Waiter)
    → now ≡ w ∷ next → first_at n a (w ∷ next) ≡ first_at n a next → others n a (w ∷ next) ≡ w ∷ others n a next → xs' ≡ xs → ys' ≡ ys ++ w ∷ []
    → AreParted n a xs ys now all_first all_others → AreParted n a xs' ys' next all_first all_others
one_other n a w xs xs' ys ys' now next all_first all_others is first other ex ey h =
    let assoc = append_assoc ys (w ∷ []) (others n a next) in
    let before : xs ++ first_at n a (w ∷ next) ≡ all_first = ap (λ z. xs ++ first_at n a z) (sym is) ∙ h.0 in
    let behind : ys ++ others n a (w ∷ next) ≡ all_others = ap (λ z. ys ++ others n a z) (sym is) ∙ h.1 in
    let kept : xs ++ first_at n a next ≡ all_first = ap (λ z. xs ++ z) (sym first) ∙ before in
    let joined : (ys ++ w ∷ []) ++ others n a next ≡ all_others = assoc ∙ ap (λ z. ys ++ z) (sym other) ∙ behind in
    (rw ex kept, rw ey joined)
