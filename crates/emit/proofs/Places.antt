-- Where things stand in a layout.
use Rattle.std.proofs.Common.{◌≡◌, ℕ, ◌+◌, zero, suc, ◌≤◌, Bool, true, false, List, [], ◌∷◌, ◌++◌, length, refl, subst, inl, inr, arith}
use Rattle.std.specs.Prelude.{Option, Some, ◌⊎◌, slice_get, if◌then◌else◌}
use Rattle.std.proofs.lemmas.Bool.{eqb-true, eq-eqb}
use Rattle.layout.specs.declared.point.Point.{Point}
use Rattle.layout.specs.declared.point.Point.TheVariants.{Start, Hop, Mid}
use Rattle.emit.specs.declared.entry.Entry.{Entry}
use Rattle.emit.specs.Entries.{is_start, place}
use Rattle.emit.proofs.EntryRows.{EntryRow, Rows}

-- a Start of y is among the words
abbrev pub Occurs : ℕ → List Entry → Type 0
Occurs y [] = ⊥
Occurs y (e ∷ es) = (e.point ≡ Start y) ⊎ Occurs y es

pub occurs_left : (y : ℕ) (xs ys : List Entry) → Occurs y xs → Occurs y (xs ++ ys)
occurs_left y [] ys o = absurd o
occurs_left y (x ∷ xs) ys (inl p) = inl p
occurs_left y (x ∷ xs) ys (inr p) = inr (occurs_left y xs ys p)

pub occurs_right : (y : ℕ) (xs ys : List Entry) → Occurs y ys → Occurs y (xs ++ ys)
occurs_right y [] ys o = o
occurs_right y (x ∷ xs) ys o = inr (occurs_right y xs ys o)

pub is_start-true : (y : ℕ) (p : Point) → is_start y p ≡ true → p ≡ Start y
is_start-true y (Start z) e = rw (eqb-true y z e) refl
is_start-true y (Hop z) e = absurd (cc)
is_start-true y (Mid z) e = absurd (cc)

pub is_start-own : (y : ℕ) (p : Point) → p ≡ Start y → is_start y p ≡ true
is_start-own y p e = rw e (eq-eqb y y refl)

true_false : false ≡ true → ⊥
true_false e = cc

tail_occurs : (y : ℕ) (e : Entry) (es : List Entry) → Occurs y (e ∷ es) → (e.point ≡ Start y → ⊥) → Occurs y es
tail_occurs y e es (inl p) n = absurd (n p)
tail_occurs y e es (inr p) n = p

-- what stands at the place of y is a Start of y
pub place_found : (y : ℕ) (es : List Entry) → Occurs y es → (e : Entry) × (slice_get es (place y es) ≡ Some e) × (e.point ≡ Start y)
place_found y [] o = absurd o
place_found y (e ∷ es) o = by_test (is_start y e.point) (is_start-true y e.point) (is_start-own y e.point) (λ n. place_found y es (tail_occurs y e es o n))
  where
    by_test : (b : Bool) → (b ≡ true → e.point ≡ Start y) → (e.point ≡ Start y → b ≡ true)
        → ((e.point ≡ Start y → ⊥) → (d : Entry) × (slice_get es (place y es) ≡ Some d) × (d.point ≡ Start y))
        → (d : Entry) × (slice_get (e ∷ es) (if b then 0 else (1 + place y es)) ≡ Some d) × (d.point ≡ Start y)
    by_test true h k r = (e, refl, h refl)
    by_test false h k r =
        let t = r (λ p. true_false (k p)) in
        let q : 1 + place y es ≡ suc (place y es) = omega arith in
        (t.0, rw q t.1, t.2)

-- the row of the word in place k, and the words that come after it
pub row_at : (text second : ℕ → Option ℕ) (known outside : ℕ → Type 0) (es rest : List Entry) (k : ℕ) (e : Entry) → Rows text second known outside es rest → slice_get es k ≡ Some e
    → (after : List Entry) × EntryRow text second known outside e after × ((j i : ℕ) → i ≡ k + 1 + j → slice_get after j ≡ slice_get (es ++ rest) i)
row_at text second known outside [] rest k e r s = absurd (cc)
row_at text second known outside (x ∷ xs) rest zero e r s =
    (xs ++ rest, subst (λ (d : Entry). EntryRow text second known outside d (xs ++ rest)) (same s) r.0, λ j i p. (let q : i ≡ suc j = omega arith in rw q refl))
  where
    same : Some x ≡ Some e → x ≡ e
    same p = cc
row_at text second known outside (x ∷ xs) rest (suc k) e r s =
    let t = row_at text second known outside xs rest k e r.1 s in
    (t.0, t.1, λ j i p. (let q : i ≡ suc (k + 1 + j) = omega arith in rw q (t.2 j (k + 1 + j) refl)))

pub place_within : (y : ℕ) (es : List Entry) → place y es ≤ length es
place_within y [] = omega arith
place_within y (e ∷ es) = by_test (is_start y e.point) (place_within y es)
  where
    by_test : (b : Bool) → place y es ≤ length es → (if b then 0 else (1 + place y es)) ≤ length (e ∷ es)
    by_test true h = omega arith
    by_test false h = omega arith
