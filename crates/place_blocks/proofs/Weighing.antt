-- Weights are counted pair by pair.
use Rattle.std.proofs.Common.{◌≡◌, ℕ, ◌+◌, ◌*◌, ◌^◌, ◌<◌, ◌≤◌, Bool, true, false, cond, List, [], ◌∷◌, map, drop, length, get_or, Option, refl, ap, ap₂, arith}
use Rattle.std.specs.Prelude.{◌&&◌, ◌||◌, slice_get, sum_by}
use Rattle.std.proofs.lemmas.List.{at_drop_more}
use Rattle.std.proofs.lemmas.List.Sums.{sum_by-cons, sum_by-le-sum_by, get_or-le-sum_by}
use Rattle.std.proofs.Math.ListN.{get_or-map}
use Rattle.blocks.specs.declared.run.Block.{Block}
use Rattle.branch_ring.specs.declared.counted.Counted.{Counted}
use Rattle.branch_ring.specs.Profiles.{counted, count_of as count}
use Rattle.place_blocks.specs.Edges.{Edge, holds, starts, leaves, enters, falls_along, counted_if, count_of, weight}
use Rattle.place_blocks.specs.Gains.{gain}
use Rattle.place_blocks.specs.Places.{is_at}

pub at_most : (b : Bool) (n : ℕ) → cond b n 0 ≤ n
at_most true n = omega arith
at_most false n = omega arith

pub gains_are : (blocks : List Block) (from to n : ℕ) (left entered : Option ℕ) (e : Edge) → ((k : ℕ) → holds (slice_get blocks k) from ≡ is_at left k) → ((k : ℕ) → starts (slice_get blocks k) to ≡ is_at entered k)
    → gain blocks (counted (from, to, n)) e ≡ cond (is_at left e.0 && is_at entered e.1) n 0 + cond (falls_along blocks e && is_at entered e.0) n 0
gains_are blocks from to n left entered e h s =
    ap₂ (λ (x y : ℕ). x + y) (ap₂ (λ (a b : Bool). cond (a && b) n 0) (h e.0) (s e.1)) (ap (λ (b : Bool). cond (falls_along blocks e && b) n 0) (s e.0))

one_more : (f t : Bool) (n x a b p q : ℕ) → p ≡ x + a → q ≡ cond t n 0 + b → p + cond f q 0 ≡ (x + cond (f && t) n 0) + (a + cond f b 0)
one_more true t n x a b p q h g = omega (arith, h, g)
one_more false t n x a b p q h g = omega (arith, h)

weight_cons : (blocks : List Block) (p : Counted) (ps : List Counted) (e : Edge) → weight blocks (p ∷ ps) e ≡ gain blocks p e + weight blocks ps e
unfolding weight
weight_cons blocks p ps e =
    one_more (falls_along blocks e) (enters blocks e.0 p) p.count (counted_if (λ p. leaves blocks e.0 p && enters blocks e.1 p) p) (count_of ps (λ p. leaves blocks e.0 p && enters blocks e.1 p))
    (count_of ps (enters blocks e.0)) (count_of (p ∷ ps) (λ p. leaves blocks e.0 p && enters blocks e.1 p)) (count_of (p ∷ ps) (enters blocks e.0))
    (sum_by-cons (counted_if (λ p. leaves blocks e.0 p && enters blocks e.1 p)) p ps) (sum_by-cons (counted_if (enters blocks e.0)) p ps)

if_none : (f : Bool) → 0 + cond f 0 0 ≡ 0
if_none true = refl
if_none false = refl

pub weight_none : (blocks : List Block) (e : Edge) → weight blocks [] e ≡ 0
unfolding weight
weight_none blocks e = if_none (falls_along blocks e)

pub count_small : (profile : List Counted) (test : Counted → Bool) → count_of profile test ≤ sum_by count profile
count_small profile test = sum_by-le-sum_by (counted_if test) count profile (λ p. at_most (test p) p.count)

weight_small : (blocks : List Block) (profile : List Counted) (e : Edge) → weight blocks profile e ≤ 2 * sum_by count profile
unfolding weight
weight_small blocks profile e =
    let a = count_small profile (λ p. leaves blocks e.0 p && enters blocks e.1 p) in
    let b = count_small profile (enters blocks e.0) in
    let c = at_most (falls_along blocks e) (count_of profile (enters blocks e.0)) in
    omega (arith, a, b, c)

length_rows : (rows : List (ℕ × ℕ × ℕ)) → length (map counted rows) ≡ length rows
length_rows [] = refl
length_rows (r ∷ rows) = let e = length_rows rows in omega (arith, e)

pub row_small : (rows : List (ℕ × ℕ × ℕ)) (i : ℕ) (d : ℕ × ℕ × ℕ) → i < length rows → (get_or rows i d).2 ≤ sum_by count (map counted rows)
row_small rows i d lt =
    let e = length_rows rows in
    let a = get_or-le-sum_by count (map counted rows) i (counted d) (omega (arith, e, lt)) in
    let b = ap count (get_or-map counted rows i d) in
    omega (arith, a, b)

-- one row more
module _ (blocks : List Block) (rows : List (ℕ × ℕ × ℕ)) (i : ℕ) (d : ℕ × ℕ × ℕ) (lt : i < length rows) where
  pub weight_step : (e : Edge) (old new : ℕ) → old + weight blocks (map counted (drop i rows)) e ≡ weight blocks (map counted rows) e → new ≡ old + gain blocks (counted (get_or rows i d)) e
      → new + weight blocks (map counted (drop (i + 1) rows)) e ≡ weight blocks (map counted rows) e
  weight_step e old new h g =
      let a = at_drop_more (λ (l : List (ℕ × ℕ × ℕ)). weight blocks (map counted l) e) rows i d lt in
      let b = weight_cons blocks (counted (get_or rows i d)) (map counted (drop (i + 1) rows)) e in
      omega (arith, a, b, h, g)

  pub weight_fits : (e : Edge) (old : ℕ) → sum_by count (map counted rows) < 2 ^ 62 → old + weight blocks (map counted (drop i rows)) e ≡ weight blocks (map counted rows) e → old + 2 * (get_or rows i d).2 < 2 ^ 64
  weight_fits e old small h =
      let a = weight_small blocks (map counted rows) e in
      let b = row_small rows i d lt in
      omega (arith, a, b, small, h)

  -- and of the count of pairs that pass a test
  pub count_step : (test : Counted → Bool) (old new : ℕ) → old + count_of (map counted (drop i rows)) test ≡ count_of (map counted rows) test → new ≡ old + cond (test (counted (get_or rows i d))) (get_or rows i d).2 0
      → new + count_of (map counted (drop (i + 1) rows)) test ≡ count_of (map counted rows) test
  count_step test old new h g =
      let a = at_drop_more (λ (l : List (ℕ × ℕ × ℕ)). count_of (map counted l) test) rows i d lt in
      let b = sum_by-cons (counted_if test) (counted (get_or rows i d)) (map counted (drop (i + 1) rows)) in
      omega (arith, a, b, h, g)

  pub count_fits : (test : Counted → Bool) (old : ℕ) → sum_by count (map counted rows) < 2 ^ 62 → old + count_of (map counted (drop i rows)) test ≡ count_of (map counted rows) test → old + (get_or rows i d).2 < 2 ^ 64
  count_fits test old small h =
      let a = count_small (map counted rows) test in
      let b = row_small rows i d lt in
      omega (arith, a, b, small, h)

-- pairs that pass one of two tests, and none both
module _ (t u : Counted → Bool) (apart : (p : Counted) → t p ≡ true → u p ≡ true → ⊥) where
  either : (p : Counted) (x y : Bool) → t p ≡ x → u p ≡ y → cond (x || y) p.count 0 ≡ cond x p.count 0 + cond y p.count 0
  either p true true e f = absurd (apart p e f)
  either p true false e f = omega arith
  either p false y e f = omega arith

  pub count_either : (profile : List Counted) → count_of profile (λ p. t p || u p) ≡ count_of profile t + count_of profile u
  count_either [] = refl
  count_either (p ∷ ps) =
      let a = sum_by-cons (counted_if (λ p. t p || u p)) p ps in
      let b = sum_by-cons (counted_if t) p ps in
      let c = sum_by-cons (counted_if u) p ps in
      let d = either p (t p) (u p) refl refl in
      let e = count_either ps in
      omega (arith, a, b, c, d, e)

pub count_no : (profile : List Counted) → count_of profile (λ p. false) ≡ 0
count_no [] = refl
count_no (p ∷ ps) = let a = sum_by-cons (counted_if (λ p. false)) p ps in let b = count_no ps in omega (arith, a, b)
