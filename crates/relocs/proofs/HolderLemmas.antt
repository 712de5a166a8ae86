-- Of segments that lie apart, the one that ends first from an address on is the only one that can hold it.
use Rattle.std.proofs.Common.{Bor, ◌≡◌, ℕ, ◌+◌, ◌<◌, ◌≤◌, Bool, true, false, cond, leb, ltb, List, [], ◌∷◌, length, get_or, Option, Some, None, inl, inr, refl, sym, ap, subst, ◌∙◌, arith}
use Rattle.std.specs.Prelude.{IsSome, IfSome, is_some}
use Rattle.std.specs.Bool.{OnTrue}
use Rattle.std.specs.List.{All, AllPairs, find, list_any, slice_get}
use Rattle.std.specs.Option.{option_copied}
use Rattle.std.specs.Ordering.{nat_cmp}
use Rattle.std.specs.BTreeMap.{BTreeMap, get, is_at}
use Rattle.std.specs.BTreeMap.Range.{IsEntryInRange, IsInRange, IsLeBy}
use Rattle.std.specs.declared.ops.Bound.TheVariants.{Included, Unbounded}
use Rattle.std.proofs.lemmas.Bool.{cases_lt, cases_order, and_cases, and_parts, and_left, and_right, leb-true, ltb-false, le-ltb}
use Rattle.std.proofs.lemmas.List.{get_or_default}
use Rattle.std.proofs.lemmas.Map.Keys.{le_from_not_gt}
use Rattle.finite.proofs.SpanLaws.{in_order, new_or_old, other_key, Gains}
use Rattle.finite.proofs.Finding.{not_passed, any_find, find_fails, find_only}
use Rattle.elf_read.specs.declared.elf.Segment.{Segment}
use Rattle.elf_read.specs.Whole.{IsSegment, AreApart, segment_end}
use Rattle.relocs.proofs.TextLemmas.{held_fits}
use Rattle.relocs.specs.Sections.{has_bytes, file_end}
use Rattle.relocs.specs.Holders.{share, last_of, IsIndex, if_passes}

pub all_alone : (segments : List Segment) → AllPairs AreApart segments → AllPairs (λ g h. share g h ≡ false) segments
all_alone segments apart i j d lt within = elim (apart i j d lt within) [
  | inl ahead ↦ and_right _ _ (le-ltb (get_or segments j d).at (segment_end (get_or segments i d)) ahead)
  | inr behind ↦ and_left _ _ (le-ltb (get_or segments i d).at (segment_end (get_or segments j d)) behind)
]

pub all_apart : (segments : List Segment) → AllPairs (λ g h. share g h ≡ false) segments → AllPairs AreApart segments
all_apart segments alone i j d lt within = elim (and_cases (ltb (get_or segments i d).at (segment_end (get_or segments j d))) (ltb (get_or segments j d).at (segment_end (get_or segments i d))) (alone i j d lt within)) [
  | inl first ↦ inr (ltb-false _ _ first)
  | inr second ↦ inl (ltb-false _ _ second)
]

pub index_none : (segments : List Segment) (places : BTreeMap ℕ ℕ) → places.entries ≡ [] → IsIndex segments 0 places
index_none segments places none = record {
  each = λ i d lt. absurd (omega arith);
  only = λ last i is. absurd (let e = none in cc);
}

-- of segments that lie apart the last addresses differ
lasts_differ : (segments : List Segment) (i j : ℕ) (d : Segment) → All IsSegment segments → AllPairs AreApart segments → i < j → j < length segments → last_of (get_or segments i d) ≡ last_of (get_or segments j d) → ⊥
lasts_differ segments i j d each apart lt within same =
    let a = each i d (omega (arith, lt, within)) in
    let b = each j d within in
    elim (apart i j d lt within) [
      | inl before ↦ omega (arith, before, same, a.some, b.some)
      | inr behind ↦ omega (arith, behind, same, a.some, b.some)
    ]

-- one more segment is in the index
pub index_more : (segments : List Segment) (i last : ℕ) (d : Segment) (m n : BTreeMap ℕ ℕ) → All IsSegment segments → AllPairs AreApart segments → i < length segments → IsIndex segments i m → last ≡ last_of (get_or segments i d) → Gains m n last i → get nat_cmp n last ≡ Some i → ((q : ℕ) → is_at (nat_cmp last) q ≡ false → get nat_cmp n q ≡ get nat_cmp m q) → IsIndex segments (i + 1) n
index_more segments i last d m n each apart lt index is gains there others = record {
  each = λ j e below. elim (cases_lt j i) [
    | inl before ↦ others (last_of (get_or segments j e)) (other_key last (last_of (get_or segments j e)) (λ same. lasts_differ segments j i e each apart before lt (sym same ∙ is ∙ ap last_of (get_or_default segments i d e lt)))) ∙ index.each j e before
    | inr past ↦ (
        let same : j ≡ i = omega (arith, below, past) in
        subst (λ (k : ℕ). get nat_cmp n (last_of (get_or segments k e)) ≡ Some k) (sym same) (ap (get nat_cmp n) (sym (is ∙ ap last_of (get_or_default segments i d e lt))) ∙ there))
  ];
  only = λ q j found. elim (new_or_old m n last i q j gains found) [
    | inl new ↦ (omega (arith, new.1), λ e. new.0 ∙ is ∙ ap last_of (get_or_default segments i d e lt) ∙ ap (λ (k : ℕ). last_of (get_or segments k e)) (sym new.1))
    | inr old ↦ (let known = index.only q j old in (omega (arith, known.0), known.1))
  ];
}

-- what a segment holds ends in it
ends_inside : (g : Segment) (from to : ℕ) → IsSegment g → from < to → has_bytes from to g ≡ true → (g.at ≤ from) × (from ≤ last_of g)
ends_inside g from to fit lt has =
    let parts = and_parts (leb g.at from) (leb to (file_end g)) has in
    let low = leb-true _ _ parts.0 in
    let high = leb-true _ _ parts.1 in
    (low, omega (arith, lt, high, fit.filled, fit.some))

some_is : (o : Option ℕ) (i : ℕ) → o ≡ Some i → IsSome o
some_is None i e = absurd cc
some_is (Some j) i e = refl

-- no segment ends at an address or past it
pub held_nowhere : (segments : List Segment) (places : BTreeMap ℕ ℕ) (from to : ℕ) → All IsSegment segments → IsIndex segments (length segments) places → from < to → ((q : ℕ) → from ≤ q → get nat_cmp places q ≡ None) → find (has_bytes from to) segments ≡ None
held_nowhere segments places from to each index lt none = find_fails (has_bytes from to) segments (λ j d within. not_passed (has_bytes from to (get_or segments j d)) (λ has. (
    let inside = ends_inside (get_or segments j d) from to (each j d within) lt has in
    let gone = none (last_of (get_or segments j d)) inside.1 in
    let there = index.each j d within in
    absurd cc)))

one_holder : (segments : List Segment) (places : BTreeMap ℕ ℕ) (from to last i j : ℕ) (d : Segment) → All IsSegment segments → AllPairs AreApart segments → IsIndex segments (length segments) places → from < to → from ≤ last → get nat_cmp places last ≡ Some i → ((q : ℕ) → from ≤ q → IsSome (get nat_cmp places q) → last ≤ q) → j < length segments → has_bytes from to (get_or segments j d) ≡ true → j ≡ i
one_holder segments places from to last i j d each apart index lt le is least within has =
    let known = index.only last i is in
    let at : last ≡ last_of (get_or segments i d) = known.1 d in
    let mine = each i d known.0 in
    let fit = each j d within in
    let inside = ends_inside (get_or segments j d) from to fit lt has in
    let upto : last ≤ last_of (get_or segments j d) = least (last_of (get_or segments j d)) inside.1 (some_is _ j (index.each j d within)) in
    elim (cases_order j i) [
      | inl same ↦ same
      | inr (inl before) ↦ elim (apart j i d before known.0) [
        | inl ahead ↦ absurd (omega (arith, ahead, at, upto, mine.some, fit.some))
        | inr behind ↦ absurd (omega (arith, behind, at, le, inside.0, mine.some))
      ]
      | inr (inr past) ↦ elim (apart i j d past within) [
        | inl ahead ↦ absurd (omega (arith, ahead, at, le, inside.0, mine.some))
        | inr behind ↦ absurd (omega (arith, behind, at, upto, mine.some, fit.some))
      ]
    ]

held_case : (segments : List Segment) (from to i : ℕ) (d : Segment) (b : Bool) → i < length segments → ((j : ℕ) (e : Segment) → j < length segments → has_bytes from to (get_or segments j e) ≡ true → j ≡ i) → has_bytes from to (get_or segments i d) ≡ b → find (has_bytes from to) segments ≡ cond b (Some (get_or segments i d)) None
held_case segments from to i d true lt only is = find_only (has_bytes from to) segments i d lt is (λ j within has. only j d within has)
held_case segments from to i d false lt only is = find_fails (has_bytes from to) segments (λ j e within. not_passed (has_bytes from to (get_or segments j e)) (λ has. (
    let same = only j e within has in
    let there : has_bytes from to (get_or segments i e) ≡ true = subst (λ (k : ℕ). has_bytes from to (get_or segments k e) ≡ true) same has in
    let other = ap (has_bytes from to) (get_or_default segments i d e lt) in
    absurd cc)))

-- the one that ends first from the address on is the only one that can hold the range
pub held_by_least : (segments : List Segment) (places : BTreeMap ℕ ℕ) (from to last i : ℕ) (d : Segment) → All IsSegment segments → AllPairs AreApart segments → IsIndex segments (length segments) places → from < to → from ≤ last → get nat_cmp places last ≡ Some i → ((q : ℕ) → from ≤ q → IsSome (get nat_cmp places q) → last ≤ q) → find (has_bytes from to) segments ≡ if_passes (has_bytes from to) (Some (get_or segments i d))
held_by_least segments places from to last i d each apart index lt le is least =
    held_case segments from to i d (has_bytes from to (get_or segments i d)) (index.only last i is).0 (λ j e within has. one_holder segments places from to last i j e each apart index lt le is least within has) refl

-- what stands at a place
pub got_there : (o : Option (Bor Segment)) (segments : List Segment) (i : ℕ) → IfSome o (λ x. x.now ≡ get_or segments i x.now) → (i < length segments → IsSome o) → (d : Segment) → i < length segments → option_copied o ≡ Some (get_or segments i d)
got_there None segments i is some d lt = absurd (let e = some lt in cc)
got_there (Some x) segments i is some d lt = ap (λ (g : Segment). Some g) (is ∙ get_or_default segments i x.now d lt)

none_here : Segment
none_here = record { flags = 0; offset = 0; at = 0; memsize = 0; bytes = [] }

-- the same for the entries of the index from the address on, of which one is the first
pub held_by_first : (segments : List Segment) (places : BTreeMap ℕ ℕ) (from to last i : ℕ) (r rest : List (ℕ × ℕ)) (o : Option Segment) → All IsSegment segments → AllPairs AreApart segments → IsIndex segments (length segments) places → from < to → r ≡ (last, i) ∷ rest → IfSome (slice_get r 0) (IsEntryInRange nat_cmp (Included from) Unbounded places) → ((q : ℕ) → IsInRange nat_cmp (Included from) Unbounded q → IsSome (get nat_cmp places q) → IfSome (slice_get r 0) (λ e. IsLeBy nat_cmp e.0 q)) → ((d : Segment) → i < length segments → o ≡ Some (get_or segments i d)) → find (has_bytes from to) segments ≡ if_passes (has_bytes from to) o
held_by_first segments places from to last i r rest o each apart index lt is entry least got =
    let there = subst (λ (es : List (ℕ × ℕ)). IfSome (slice_get es 0) (IsEntryInRange nat_cmp (Included from) Unbounded places)) is entry in
    let first = held_by_least segments places from to last i none_here each apart index lt (le_from_not_gt from last there.0.0) there.1 (λ q le some. (
    le_from_not_gt last q (subst (λ (es : List (ℕ × ℕ)). IfSome (slice_get es 0) (λ e. IsLeBy nat_cmp e.0 q)) is (least q (in_order from q le, tt) some)))) in
    first ∙ ap (if_passes (has_bytes from to)) (sym (got none_here (index.only last i there.1).0))

some_copied : (o : Option (Bor Segment)) → is_some (option_copied o) ≡ is_some o
some_copied None = refl
some_copied (Some x) = refl

-- one segment holds it where there is a first that does
pub held_by_holder : (segments : List Segment) (from to : ℕ) (o : Option (Bor Segment)) → option_copied o ≡ find (has_bytes from to) segments → is_some o ≡ list_any (has_bytes from to) segments
held_by_holder segments from to o first = sym (some_copied o) ∙ ap is_some first ∙ sym (any_find (has_bytes from to) segments)

pub held_low : (segments : List Segment) (from size : ℕ) (b : Bool) → All IsSegment segments → b ≡ list_any (has_bytes from (from + size)) segments → OnTrue b (from + size ≤ 0x08000000)
held_low segments from size true each held = (held_fits (record { kind = 0; flags = 0; at = from; offset = 0; size = size }) segments each (sym held)).1
held_low segments from size false each held = tt
