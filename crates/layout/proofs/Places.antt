-- Where the elements of a list of a layout stand.
use Rattle.std.proofs.Common.{◌≡◌, ℕ, ◌+◌, ◌-◌, ◌*◌, ◌/◌, ◌%◌, ◌==◌, ◌≤◌, ◌<◌, Bool, true, false, List, length, refl, arith}
use Rattle.std.specs.Prelude.{Option, Some, None, slice_get, nat_le, ◌&&◌, IsSome, if◌then◌else◌}
use Rattle.std.proofs.lemmas.Option.{slice_get_within}
use Rattle.std.proofs.lemmas.Bool.{eqb-true, eq-eqb, leb-true, le-leb, and_parts}
use Rattle.layout.specs.Laid.{item_at}

-- the element in place k
pub item_here : {X : Type 0} (base : ℕ) (xs : List X) (k : ℕ) → item_at base xs (base + 4 * k) ≡ slice_get xs k
unfolding item_at
item_here base xs k =
    let p : nat_le base (base + 4 * k) ≡ true = le-leb base (base + 4 * k) (omega arith) in
    let q : ((base + 4 * k - base) % 4 == 0) ≡ true = eq-eqb ((base + 4 * k - base) % 4) 0 (omega arith) in
    let r : (base + 4 * k - base) / 4 ≡ k = omega arith in
    rw (p, q, r) refl

-- an element stands in one place
pub item_place : {X : Type 0} (base : ℕ) (xs : List X) (a : ℕ) (x : X) → item_at base xs a ≡ Some x → (k : ℕ) × (a ≡ base + 4 * k) × (slice_get xs k ≡ Some x)
unfolding item_at
item_place base xs a x e = by_test (nat_le base a && ((a - base) % 4 == 0)) refl e
  where
    by_test : (b : Bool) → (nat_le base a && ((a - base) % 4 == 0)) ≡ b → (if b then slice_get xs ((a - base) / 4) else None) ≡ Some x
        → (k : ℕ) × (a ≡ base + 4 * k) × (slice_get xs k ≡ Some x)
    by_test true p q =
        let t = and_parts (nat_le base a) ((a - base) % 4 == 0) p in
        let l = leb-true base a t.0 in
        let m = eqb-true ((a - base) % 4) 0 t.1 in
        ((a - base) / 4, omega arith, q)
    by_test false p q = absurd (cc)

-- an address with an element
pub item_within : {X : Type 0} (base : ℕ) (xs : List X) (a : ℕ) → IsSome (item_at base xs a) → (base ≤ a) × ((a - base) / 4 < length xs)
item_within base xs a h = by_item (item_at base xs a) refl h
  where
    by_item : (o : Option _) → item_at base xs a ≡ o → IsSome o → (base ≤ a) × ((a - base) / 4 < length xs)
    by_item None e h = absurd (cc)
    by_item (Some x) e h =
        let t = item_place base xs a x e in
        let l = slice_get_within xs t.0 x t.2 in
        let is = t.1 in
        (omega (arith, is), omega (arith, is, l))
