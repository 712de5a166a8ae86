-- Where the pairs of a profile that come from a function stand.
use Rattle.std.proofs.Common.{◌≡◌, ℕ, ◌<◌, ◌≤◌, Bool, true, false, List, length, map, get_or, refl, sym, ◌∙◌, inl, inr, arith}
use Rattle.std.specs.Prelude.{nat_le, nat_lt, AllPairs}
use Rattle.std.specs.List.{AllWithin, list_any}
use Rattle.std.specs.List.Sorted.{IsNonDecreasingBy}
use Rattle.std.proofs.lemmas.Bool.{and_from, cases_lt, cases_order, lt-ltb, le-leb, ltb-true, ltb-false}
use Rattle.std.proofs.lemmas.Bool.Decides.{nat_tests}
use Rattle.std.proofs.lemmas.List.{get_or-map, get_or_default, length-map}
use Rattle.std.proofs.lemmas.List.Folds.{list_any_at, list_any_none}
use Rattle.image.specs.declared.ranges.Func.{Func}
use Rattle.image.specs.Aims.{is_inside}
use Rattle.branch_ring.specs.declared.counted.Counted.{Counted}
use Rattle.branch_ring.specs.Profiles.{Precedes, counted}
use Rattle.placer.specs.Chosen.{row_from}

abbrev is_from : Func → Counted → Bool
is_from f c = is_inside c.from f

no_less : (c d : Counted) → Precedes c d → c.from ≤ d.from
no_less c d (inl l) = omega arith
no_less c d (inr e) = omega (arith, e.0)

pub froms_rise : (rows : List (ℕ × ℕ × ℕ)) → AllPairs Precedes (map counted rows) → IsNonDecreasingBy row_from rows
froms_rise rows up i j d le lt =
    elim (cases_order i j) [
      | inl same ↦ rw same (omega arith)
      | inr (inl below) ↦ (
          let one = get_or-map counted rows i d (counted d) (omega arith) in
          let two = get_or-map counted rows j d (counted d) lt in
          let h = up i j (counted d) below (rw length-map lt) in
          no_less (counted (get_or rows i d)) (counted (get_or rows j d)) (rw (one, two) at h))
      | inr (inr past) ↦ absurd (omega arith)
    ]

inside_is : (a : ℕ) (f : Func) → f.from ≤ a → a < f.to → is_inside a f ≡ true
inside_is a f l m = and_from (nat_le f.from a) (nat_lt a f.to) (le-leb f.from a l) (lt-ltb a f.to m)

outside_below : (a : ℕ) (f : Func) → a < f.from → is_inside a f ≡ false
outside_below a f l = grind (arith, nat_tests)

outside_past : (a : ℕ) (f : Func) → f.to ≤ a → is_inside a f ≡ false
outside_past a f l = grind (arith, nat_tests)

pub some_from : (rows : List (ℕ × ℕ × ℕ)) (f : Func) (i : ℕ) (d : ℕ × ℕ × ℕ) → AllWithin (λ r. f.from ≤ row_from r) rows i (length rows) → i < length rows → row_from (get_or rows i d) < f.to
    → list_any (is_from f) (map counted rows) ≡ true
some_from rows f i d above lt less =
    let place = get_or-map counted rows i d (counted d) lt in
    let low = above i d (omega arith) lt in
    list_any_at (is_from f) (map counted rows) i (counted d) (rw length-map lt) (rw place (inside_is (row_from (get_or rows i d)) f low less))

none_before : (rows : List (ℕ × ℕ × ℕ)) (f : Func) (i k : ℕ) (d : ℕ × ℕ × ℕ) → AllWithin (λ r. row_from r < f.from) rows 0 i → k < i → is_inside (row_from (get_or rows k d)) f ≡ false
none_before rows f i k d below l = outside_below (row_from (get_or rows k d)) f (below k d (omega arith) l)

none_after : (rows : List (ℕ × ℕ × ℕ)) (f : Func) (i k : ℕ) (d : ℕ × ℕ × ℕ) → IsNonDecreasingBy row_from rows → i ≤ k → k < length rows → f.to ≤ row_from (get_or rows i d) → is_inside (row_from (get_or rows k d)) f ≡ false
none_after rows f i k d up le lt past = outside_past (row_from (get_or rows k d)) f (let h = up i k d le lt in omega arith)

pub none_from : (rows : List (ℕ × ℕ × ℕ)) (f : Func) (i : ℕ) → IsNonDecreasingBy row_from rows → AllWithin (λ r. row_from r < f.from) rows 0 i
    → ((d : ℕ × ℕ × ℕ) → i < length rows → f.to ≤ row_from (get_or rows i d)) → list_any (is_from f) (map counted rows) ≡ false
none_from rows f i up below past =
    list_any_none (is_from f) (map counted rows) (λ k d l.
    let row : ℕ × ℕ × ℕ = (d.from, d.to, d.count) in
    let within : k < length rows = rw length-map at l in
    let place = get_or-map counted rows k row d within in
    rw place (elim (cases_lt k i) [
      | inl before ↦ none_before rows f i k row below before
      | inr after ↦ none_after rows f i k row up after within (past row (omega arith))
    ]))

pub is_tested : (rows : List (ℕ × ℕ × ℕ)) (f : Func) (i : ℕ) (d : ℕ × ℕ × ℕ) → IsNonDecreasingBy row_from rows → AllWithin (λ r. row_from r < f.from) rows 0 i → AllWithin (λ r. f.from ≤ row_from r) rows i (length rows) → i < length rows
    → nat_lt (row_from (get_or rows i d)) f.to ≡ list_any (is_from f) (map counted rows)
is_tested rows f i d up below above lt = by_test (nat_lt (row_from (get_or rows i d)) f.to) refl
  where
    by_test : (b : Bool) → nat_lt (row_from (get_or rows i d)) f.to ≡ b → nat_lt (row_from (get_or rows i d)) f.to ≡ list_any (is_from f) (map counted rows)
    by_test true t = t ∙ sym (some_from rows f i d above lt (ltb-true (row_from (get_or rows i d)) f.to t))
    by_test false t = t ∙ sym (none_from rows f i up below (λ e l. let same = get_or_default rows i e d lt in let past = ltb-false (row_from (get_or rows i d)) f.to t in rw same past))
