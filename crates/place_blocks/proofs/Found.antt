-- Blocks found by a search for the last one that starts at or before an address.
use Rattle.std.proofs.Common.{◌≡◌, ℕ, zero, suc, ◌+◌, ◌-◌, ◌<◌, ◌≤◌, ◌==◌, Bool, true, false, List, [], ◌∷◌, length, get_or, Option, Some, None, is_some, inl, inr, refl, sym, ◌∙◌, ap, ap₂, arith}
use Rattle.std.specs.Prelude.{◌&&◌, nat_le, nat_lt, slice_get}
use Rattle.std.specs.List.{AllWithin}
use Rattle.std.proofs.lemmas.Bool.{and_parts, eq-eqb, ne_eqb, cases_eq, cases_order, lt-ltb, le-ltb, lt-leb, le-leb, ltb-true, leb-true}
use Rattle.blocks.specs.declared.run.Block.{Block}
use Rattle.place_blocks.specs.Edges.{holds, starts, falls, falls_along}
use Rattle.place_blocks.specs.Gains.{is_edge}
use Rattle.place_blocks.specs.Inputs.{AreBlocks}
use Rattle.place_blocks.specs.Places.{is_at}

-- what is shown of each element and of none holds of what stands at a place
pub at_place : {X : Type 0} (P : Option X → Type 0) (xs : List X) (k : ℕ) → (length xs ≤ k → P None) → ((x : X) → k < length xs → ((d : X) → get_or xs k d ≡ x) → P (Some x)) → P (slice_get xs k)
at_place P [] k none some = none (omega arith)
at_place P (x ∷ xs) zero none some = some x (omega arith) (λ d. refl)
at_place P (x ∷ xs) (suc k) none some = at_place P xs k (λ le. none (omega (arith, le))) (λ y lt is. some y (omega (arith, lt)) is)

held : (from to at : ℕ) → from ≤ at → at < to → (nat_le from at && nat_lt at to) ≡ true
held from to at a b = ap₂ (λ (x y : Bool). x && y) (le-leb from at a) (lt-ltb at to b)

and_false : (b : Bool) → (b && false) ≡ false
and_false true = refl
and_false false = refl

not_before : (from to at : ℕ) → at < from → (nat_le from at && nat_lt at to) ≡ false
not_before from to at a = ap (λ (x : Bool). x && nat_lt at to) (lt-leb from at a)

not_after : (from to at : ℕ) → to ≤ at → (nat_le from at && nat_lt at to) ≡ false
not_after from to at a = ap (λ (x : Bool). nat_le from at && x) (le-ltb at to a) ∙ and_false (nat_le from at)

module _ (blocks : List Block) (are : AreBlocks blocks) (at n : ℕ) (within : n ≤ length blocks) (up_to : AllWithin (λ b. b.range.from ≤ at) blocks 0 n)
    (others : AllWithin (λ b. at < b.range.from) blocks n (length blocks)) where
  -- a block before the last of those ends before it starts
  earlier : (k : ℕ) (d : Block) → k + 1 < n → (get_or blocks k d).range.to ≤ at
  earlier k d lt =
      let a = are.apart k (n - 1) d (omega (arith, lt)) (omega (arith, lt, within)) in
      let u = up_to (n - 1) d (omega arith) (omega (arith, lt)) in
      omega (arith, a, u)

  pub none_holds : n ≡ 0 → (k : ℕ) → holds (slice_get blocks k) at ≡ is_at None k
  none_holds e k =
      at_place (λ o. holds o at ≡ false) blocks k (λ _. refl) (λ b lt is.
      let o = others k b (omega (arith, e)) lt in
      let f = ap (λ (x : Block). x.range.from) (is b) in
      not_before b.range.from b.range.to at (omega (arith, o, f)))

  pub none_starts : n ≡ 0 → (k : ℕ) → starts (slice_get blocks k) at ≡ is_at None k
  none_starts e k =
      at_place (λ o. starts o at ≡ false) blocks k (λ _. refl) (λ b lt is.
      let o = others k b (omega (arith, e)) lt in
      let f = ap (λ (x : Block). x.range.from) (is b) in
      ne_eqb b.range.from at (λ same. omega (arith, o, f, same)))

  module _ (some : 0 < n) where
    pub past_holds : ((d : Block) → (get_or blocks (n - 1) d).range.to ≤ at) → (k : ℕ) → holds (slice_get blocks k) at ≡ is_at None k
    past_holds past k =
        at_place (λ o. holds o at ≡ false) blocks k (λ _. refl) (λ b lt is. which b lt (ap (λ (x : Block). x.range.from) (is b)) (ap (λ (x : Block). x.range.to) (is b)))
      where
        which : (b : Block) → k < length blocks → (get_or blocks k b).range.from ≡ b.range.from → (get_or blocks k b).range.to ≡ b.range.to → (nat_le b.range.from at && nat_lt at b.range.to) ≡ false
        which b lt f g =
            elim (cases_order k (n - 1)) [
              | inl same ↦ not_after b.range.from b.range.to at (let p = past b in let q = ap (λ (i : ℕ). (get_or blocks i b).range.to) same in omega (arith, p, q, g))
              | inr (inl below) ↦ not_after b.range.from b.range.to at (let p = earlier k b (omega (arith, below)) in omega (arith, p, g))
              | inr (inr over) ↦ not_before b.range.from b.range.to at (let o = others k b (omega (arith, over)) lt in omega (arith, o, f))
            ]

    pub here_holds : ((d : Block) → at < (get_or blocks (n - 1) d).range.to) → (k : ℕ) → holds (slice_get blocks k) at ≡ is_at (Some (n - 1)) k
    here_holds here k =
        at_place (λ o. holds o at ≡ is_at (Some (n - 1)) k) blocks k (λ le. sym (ne_eqb (n - 1) k (λ same. omega (arith, le, within, same, some))))
        (λ b lt is. which b lt (ap (λ (x : Block). x.range.from) (is b)) (ap (λ (x : Block). x.range.to) (is b)))
      where
        which : (b : Block) → k < length blocks → (get_or blocks k b).range.from ≡ b.range.from → (get_or blocks k b).range.to ≡ b.range.to → (nat_le b.range.from at && nat_lt at b.range.to) ≡ ((n - 1) == k)
        which b lt f g =
            elim (cases_order k (n - 1)) [
              | inl same ↦ held b.range.from b.range.to at (let u = up_to k b (omega arith) (omega (arith, same, some)) in omega (arith, u, f))
                  (let p = here b in let q = ap (λ (i : ℕ). (get_or blocks i b).range.to) same in omega (arith, p, q, g)) ∙ sym (eq-eqb (n - 1) k (sym same))
              | inr (inl below) ↦ not_after b.range.from b.range.to at (let p = earlier k b (omega (arith, below)) in omega (arith, p, g)) ∙ sym (ne_eqb (n - 1) k (λ same. omega (arith, below, same)))
              | inr (inr over) ↦ not_before b.range.from b.range.to at (let o = others k b (omega (arith, over)) lt in omega (arith, o, f)) ∙ sym (ne_eqb (n - 1) k (λ same. omega (arith, over, same)))
            ]

    -- the same of starts
    start_before : (k : ℕ) (b : Block) → k < length blocks → k + 1 < n → (get_or blocks k b).range.from ≡ b.range.from → b.range.from ≡ at → ⊥
    start_before k b lt below f same =
        let p = earlier k b below in
        let q = are.filled k b lt in
        omega (arith, p, q, f, same)

    pub past_starts : ((d : Block) → (get_or blocks (n - 1) d).range.from ≡ at → ⊥) → (k : ℕ) → starts (slice_get blocks k) at ≡ is_at None k
    past_starts past k =
        at_place (λ o. starts o at ≡ false) blocks k (λ _. refl) (λ b lt is. which b lt (ap (λ (x : Block). x.range.from) (is b)))
      where
        which : (b : Block) → k < length blocks → (get_or blocks k b).range.from ≡ b.range.from → (b.range.from == at) ≡ false
        which b lt f =
            elim (cases_order k (n - 1)) [
              | inl same ↦ ne_eqb b.range.from at (λ e. past b (let q = ap (λ (i : ℕ). (get_or blocks i b).range.from) same in omega (arith, q, f, e)))
              | inr (inl below) ↦ ne_eqb b.range.from at (start_before k b lt (omega (arith, below)) f)
              | inr (inr over) ↦ ne_eqb b.range.from at (λ e. let o = others k b (omega (arith, over)) lt in omega (arith, o, f, e))
            ]

    pub here_starts : ((d : Block) → (get_or blocks (n - 1) d).range.from ≡ at) → (k : ℕ) → starts (slice_get blocks k) at ≡ is_at (Some (n - 1)) k
    here_starts here k =
        at_place (λ o. starts o at ≡ is_at (Some (n - 1)) k) blocks k (λ le. sym (ne_eqb (n - 1) k (λ same. omega (arith, le, within, same, some))))
        (λ b lt is. which b lt (ap (λ (x : Block). x.range.from) (is b)))
      where
        which : (b : Block) → k < length blocks → (get_or blocks k b).range.from ≡ b.range.from → (b.range.from == at) ≡ ((n - 1) == k)
        which b lt f =
            elim (cases_order k (n - 1)) [
              | inl same ↦ eq-eqb b.range.from at (let p = here b in let q = ap (λ (i : ℕ). (get_or blocks i b).range.from) same in omega (arith, p, q, f)) ∙ sym (eq-eqb (n - 1) k (sym same))
              | inr (inl below) ↦ ne_eqb b.range.from at (start_before k b lt (omega (arith, below)) f) ∙ sym (ne_eqb (n - 1) k (λ same. omega (arith, below, same)))
              | inr (inr over) ↦ ne_eqb b.range.from at (λ e. let o = others k b (omega (arith, over)) lt in omega (arith, o, f, e)) ∙ sym (ne_eqb (n - 1) k (λ same. omega (arith, over, same)))
            ]

-- one block at most has an address
pub held_at : (blocks : List Block) (k at : ℕ) → holds (slice_get blocks k) at ≡ true → (b : Block) × (k < length blocks) × (b.range.from ≤ at) × (at < b.range.to) × ((d : Block) → get_or blocks k d ≡ b)
held_at [] k at e = absurd cc
held_at (b ∷ blocks) zero at e =
    let parts = and_parts (nat_le b.range.from at) (nat_lt at b.range.to) e in
    (b, omega arith, leb-true b.range.from at parts.0, ltb-true at b.range.to parts.1, λ d. refl)
held_at (b ∷ blocks) (suc k) at e = let h = held_at blocks k at e in (h.0, omega (arith, h.1), h.2, h.3, h.4)

pub one_holder : (blocks : List Block) → AreBlocks blocks → (j k at : ℕ) → holds (slice_get blocks j) at ≡ true → holds (slice_get blocks k) at ≡ true → j ≡ k
one_holder blocks are j k at g h = which (held_at blocks j at g) (held_at blocks k at h)
  where
    apart_at : (i l : ℕ) (b c : Block) → i < l → l < length blocks → ((d : Block) → get_or blocks i d ≡ b) → ((d : Block) → get_or blocks l d ≡ c) → at < b.range.to → c.range.from ≤ at → ⊥
    apart_at i l b c lt inside bi cl up low =
        let a = are.apart i l b lt inside in
        let p = ap (λ (x : Block). x.range.to) (bi b) in
        let q = ap (λ (x : Block). x.range.from) (cl b) in
        omega (arith, a, p, q, up, low)

    which : ((b : Block) × (j < length blocks) × (b.range.from ≤ at) × (at < b.range.to) × ((d : Block) → get_or blocks j d ≡ b))
        → ((b : Block) × (k < length blocks) × (b.range.from ≤ at) × (at < b.range.to) × ((d : Block) → get_or blocks k d ≡ b)) → j ≡ k
    which x y =
        elim (cases_order j k) [
          | inl same ↦ same
          | inr (inl below) ↦ absurd (apart_at j k x.0 y.0 below y.1 x.4 y.4 x.3 y.2)
          | inr (inr over) ↦ absurd (apart_at k j y.0 x.0 over x.1 y.4 x.4 y.3 x.2)
        ]

-- the edge into the next block
pub falls_edge : (blocks : List Block) (from : ℕ) (e : ℕ × ℕ) → falls (slice_get blocks from) ≡ true → is_some (slice_get blocks (from + 1)) ≡ true → is_edge (from, from + 1) e ≡ (falls_along blocks e && is_at (Some from) e.0)
falls_edge blocks from e f g =
    elim (cases_eq from e.0) [
      | inl same ↦ (elim (cases_eq (from + 1) e.1) [
        | inl next ↦
            ap₂ (λ (x y : Bool). x && y) (eq-eqb from e.0 same) (eq-eqb (from + 1) e.1 next)
            ∙ sym (all_true (e.0 + 1 == e.1) (falls (slice_get blocks e.0)) (is_some (slice_get blocks e.1)) (from == e.0) (eq-eqb (e.0 + 1) e.1 (omega (arith, same, next)))
            (ap (λ (k : ℕ). falls (slice_get blocks k)) (sym same) ∙ f) (ap (λ (k : ℕ). is_some (slice_get blocks k)) (sym next) ∙ g) (eq-eqb from e.0 same))
        | inr other ↦
            ap (λ (y : Bool). (from == e.0) && y) (ne_eqb (from + 1) e.1 other) ∙ and_false (from == e.0)
            ∙ sym (ap (λ (y : Bool). (y && (falls (slice_get blocks e.0) && is_some (slice_get blocks e.1))) && (from == e.0)) (ne_eqb (e.0 + 1) e.1 (λ h. other (omega (arith, same, h)))))
      ])
      | inr other ↦
          ap (λ (y : Bool). y && (from + 1 == e.1)) (ne_eqb from e.0 other)
          ∙ sym (ap (λ (y : Bool). falls_along blocks e && y) (ne_eqb from e.0 other) ∙ and_false (falls_along blocks e))
    ]
  where
    all_true : (a b c d : Bool) → a ≡ true → b ≡ true → c ≡ true → d ≡ true → ((a && (b && c)) && d) ≡ true
    all_true true true true true g h i j = refl
    all_true false b c d g h i j = absurd cc
    all_true true false c d g h i j = absurd cc
    all_true true true false d g h i j = absurd cc
    all_true true true true false g h i j = absurd cc
