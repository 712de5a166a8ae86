-- There is one order of blocks for a profile.
use Rattle.std.proofs.Common.{◌≡◌, ℕ, zero, suc, ◌<◌, Bool, true, false, List, [], ◌∷◌, length, inl, inr, refl, sym, ◌∙◌, subst, ap, arith}
use Rattle.std.specs.Prelude.{◌⊎◌}
use Rattle.std.specs.List.{Contains, flat_map}
use Rattle.std.proofs.lemmas.List.Sorted.{Contains-permutation, IsPermutation-sym}
use Rattle.blocks.specs.declared.run.Block.{Block}
use Rattle.branch_ring.specs.declared.counted.Counted.{Counted}
use Rattle.place_blocks.specs.Rising.{Rises, IsAmong}
use Rattle.place_blocks.specs.Edges.{weight}
use Rattle.place_blocks.specs.Orders.{Goes, is_first, least, heat, singles, IsLaid, IsChain}
use Rattle.place_blocks.proofs.Joining.{of_each, joins_once}

pub among_from : {X : Type 0} (xs : List X) (x : X) → Contains xs x → IsAmong xs x
among_from [] x (k, lt, e) = absurd (omega (arith, lt))
among_from (y ∷ ys) x (zero, lt, e) = inl e
among_from (y ∷ ys) x (suc k, lt, e) = inr (among_from ys x (k, omega (arith, lt), e))

pub contains_from : {X : Type 0} (xs : List X) (x : X) → IsAmong xs x → Contains xs x
contains_from [] x h = absurd h
contains_from (y ∷ ys) x (inl e) = (0, omega arith, e)
contains_from (y ∷ ys) x (inr h) = let c = contains_from ys x h in (suc c.0, omega (arith, c.1), c.2)

-- two lists in a strict order with the same elements are one
module _ {X : Type 0} (before : X → X → Type 0) (not_both : (x y : X) → before x y → before y x → ⊥) where
  behind : (x y : X) (xs ys : List X) → Rises before (x ∷ xs) → y ≡ x → ((z : X) → IsAmong (x ∷ xs) z → IsAmong (y ∷ ys) z) → (z : X) → IsAmong xs z → IsAmong ys z
  behind x y xs ys rises same into z h = which (into z (inr h))
    where
      which : IsAmong (y ∷ ys) z → IsAmong ys z
      which (inr k) = k
      which (inl e) =
          let b : before x z = of_each (before x) xs z rises.0 h in
          let c : before z z = subst (λ (w : X). before w z) (sym same ∙ e) b in
          absurd (not_both z z c c)

  heads : (x y : X) (xs ys : List X) → Rises before (x ∷ xs) → Rises before (y ∷ ys) → IsAmong (y ∷ ys) x → IsAmong (x ∷ xs) y → x ≡ y
  heads x y xs ys g h (inl e) k = sym e
  heads x y xs ys g h (inr m) (inl e) = e
  heads x y xs ys g h (inr m) (inr k) = absurd (not_both x y (of_each (before x) xs y g.0 k) (of_each (before y) ys x h.0 m))

  pub rises_once : (xs ys : List X) → Rises before xs → Rises before ys → ((z : X) → IsAmong xs z → IsAmong ys z) → ((z : X) → IsAmong ys z → IsAmong xs z) → xs ≡ ys
  rises_once [] [] g h into back = refl
  rises_once [] (y ∷ ys) g h into back = absurd (back y (inl refl))
  rises_once (x ∷ xs) [] g h into back = absurd (into x (inl refl))
  rises_once (x ∷ xs) (y ∷ ys) g h into back =
      let same : x ≡ y = heads x y xs ys g h (into x (inl refl)) (back y (inl refl)) in
      let rest = rises_once xs ys g.1 h.1 (behind x y xs ys g (sym same) into) (behind y x ys xs h same back) in
      λ i. same i ∷ rest i

true_false : (b : Bool) → b ≡ true → b ≡ false → ⊥
true_false b e f = let g : true ≡ false = sym e ∙ f in cc

goes_apart : (hot : List ℕ → ℕ) (c d : List ℕ) → Goes hot c d → Goes hot d c → ⊥
goes_apart hot c d g h = which g.1 h.1
  where
    which : (is_first c ≡ true) ⊎ ((hot d < hot c) ⊎ ((hot c ≡ hot d) × (least c < least d))) → (is_first d ≡ true) ⊎ ((hot c < hot d) ⊎ ((hot d ≡ hot c) × (least d < least c))) → ⊥
    which (inl a) b = true_false (is_first c) a h.0
    which (inr a) (inl b) = true_false (is_first d) b g.0
    which (inr (inl a)) (inr (inl b)) = omega (arith, a, b)
    which (inr (inl a)) (inr (inr b)) = omega (arith, a, b.0)
    which (inr (inr a)) (inr (inl b)) = omega (arith, a.0, b)
    which (inr (inr a)) (inr (inr b)) = omega (arith, a.1, b.1)

laid_once : (hot : List ℕ → ℕ) (chains : List (List ℕ)) (one two : List ℕ) → IsLaid hot chains one → IsLaid hot chains two → one ≡ two
laid_once hot chains one two g h =
    let into : (z : List ℕ) → IsAmong g.laid z → IsAmong h.laid z = λ z m. among_from h.laid z (Contains-permutation chains h.laid z h.same (Contains-permutation g.laid chains z (IsPermutation-sym chains g.laid g.same) (contains_from g.laid z m))) in
    let back : (z : List ℕ) → IsAmong h.laid z → IsAmong g.laid z = λ z m. among_from g.laid z (Contains-permutation chains g.laid z g.same (Contains-permutation h.laid chains z (IsPermutation-sym chains h.laid h.same) (contains_from h.laid z m))) in
    let same : g.laid ≡ h.laid = rises_once (Goes hot) (goes_apart hot) g.laid h.laid g.rises h.rises into back in
    g.is ∙ ap (flat_map (λ c. c)) same ∙ sym h.is

pub chain_once : (blocks : List Block) (profile : List Counted) (one two : List ℕ) → IsChain blocks profile one → IsChain blocks profile two → one ≡ two
chain_once blocks profile one two g h =
    let same = (joins_once (weight blocks profile) g.taken h.taken (singles (length blocks)) g.chains h.chains g.joins h.joins).1 in
    laid_once (heat blocks profile) h.chains one two (subst (λ (c : List (List ℕ)). IsLaid (heat blocks profile) c one) same g.laid) h.laid
