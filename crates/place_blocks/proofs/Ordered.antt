-- Edges with a weight join blocks that are there.
use Rattle.std.proofs.Common.{◌≡◌, ℕ, zero, suc, ◌+◌, ◌<◌, ◌==◌, Bool, true, false, cond, List, [], ◌∷◌, map, length, get_or, Option, None, is_some, inl, inr, refl, ◌∙◌, ap, arith}
use Rattle.std.specs.Prelude.{◌&&◌, ◌↔◌, slice_get}
use Rattle.std.specs.List.{All}
use Rattle.std.proofs.lemmas.Bool.{cases_lt}
use Rattle.std.proofs.lemmas.List.Sums.{sum_by-cons}
use Rattle.blocks.specs.declared.run.Block.{Block}
use Rattle.branch_ring.specs.declared.counted.Counted.{Counted}
use Rattle.place_blocks.specs.declared.edge.WeighedEdge.{WeighedEdge}
use Rattle.place_blocks.specs.Edges.{Edge, holds, starts, falls, leaves, enters, falls_along, counted_if, count_of, weight}
use Rattle.place_blocks.specs.Passes.{edge_of}
use Rattle.place_blocks.specs.Rising.{IsAmong}

past_end : {X : Type 0} (xs : List X) (k : ℕ) → (k < length xs → ⊥) → slice_get xs k ≡ None
past_end [] k f = refl
past_end (x ∷ xs) zero f = absurd (f (omega arith))
past_end (x ∷ xs) (suc k) f = past_end xs k (λ lt. f (omega (arith, lt)))

-- a test that no pair passes
count_never : (profile : List Counted) (test : Counted → Bool) → ((p : Counted) → test p ≡ false) → count_of profile test ≡ 0
count_never [] test f = refl
count_never (p ∷ ps) test f =
    let a = sum_by-cons (counted_if test) p ps in
    let b : counted_if test p ≡ 0 = ap (λ (t : Bool). cond t p.count 0) (f p) in
    let c = count_never ps test f in
    omega (arith, a, b, c)

and_false : (b : Bool) → (b && false) ≡ false
and_false true = refl
and_false false = refl

no_weight : (f : Bool) (a b : ℕ) → a ≡ 0 → f ≡ false → a + cond f b 0 ≡ 0
no_weight true a b e g = absurd cc
no_weight false a b e g = omega (arith, e)

module _ (blocks : List Block) (profile : List Counted) (e : Edge) where
  from_missing : slice_get blocks e.0 ≡ None → weight blocks profile e ≡ 0
  unfolding weight
  from_missing none =
      no_weight (falls_along blocks e) (count_of profile (λ p. leaves blocks e.0 p && enters blocks e.1 p)) (count_of profile (enters blocks e.0))
      (count_never profile (λ p. leaves blocks e.0 p && enters blocks e.1 p) (λ p. ap (λ (o : Option Block). holds o p.from && enters blocks e.1 p) none))
      (ap (λ (o : Option Block). (e.0 + 1 == e.1) && (falls o && is_some (slice_get blocks e.1))) none ∙ and_false (e.0 + 1 == e.1))

  to_missing : slice_get blocks e.1 ≡ None → weight blocks profile e ≡ 0
  unfolding weight
  to_missing none =
      no_weight (falls_along blocks e) (count_of profile (λ p. leaves blocks e.0 p && enters blocks e.1 p)) (count_of profile (enters blocks e.0))
      (count_never profile (λ p. leaves blocks e.0 p && enters blocks e.1 p) (λ p. ap (λ (o : Option Block). leaves blocks e.0 p && starts o p.to) none ∙ and_false (leaves blocks e.0 p)))
      (ap (λ (o : Option Block). (e.0 + 1 == e.1) && (falls (slice_get blocks e.0) && is_some o)) none
      ∙ ap (λ (b : Bool). (e.0 + 1 == e.1) && b) (and_false (falls (slice_get blocks e.0))) ∙ and_false (e.0 + 1 == e.1))

  inside : 0 < weight blocks profile e → (e.0 < length blocks) × (e.1 < length blocks)
  inside lt = (from, to)
    where
      from : e.0 < length blocks
      from =
          elim (cases_lt e.0 (length blocks)) [
            | inl l ↦ l
            | inr ge ↦ absurd (let z = from_missing (past_end blocks e.0 (λ l. omega (arith, l, ge))) in omega (arith, z, lt))
          ]

      to : e.1 < length blocks
      to =
          elim (cases_lt e.1 (length blocks)) [
            | inl l ↦ l
            | inr ge ↦ absurd (let z = to_missing (past_end blocks e.1 (λ l. omega (arith, l, ge))) in omega (arith, z, lt))
          ]

at_among : (xs : List WeighedEdge) (k : ℕ) (d : WeighedEdge) → k < length xs → IsAmong (map edge_of xs) (edge_of (get_or xs k d))
at_among [] k d lt = absurd (omega (arith, lt))
at_among (x ∷ xs) zero d lt = inl refl
at_among (x ∷ xs) (suc k) d lt = inr (at_among xs k d (omega (arith, lt)))

pub edges_inside : (blocks : List Block) (profile : List Counted) (edges : List WeighedEdge) → ((e : Edge) → IsAmong (map edge_of edges) e ↔ (0 < weight blocks profile e)) → All (λ e. (e.from < length blocks) × (e.to < length blocks)) edges
edges_inside blocks profile edges all = λ k d lt. inside blocks profile (edge_of (get_or edges k d)) ((all (edge_of (get_or edges k d))).0 (at_among edges k d lt))
