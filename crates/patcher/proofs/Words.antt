-- What stands at each address of text or of a layout after another word was put at one.
use Rattle.std.proofs.Common.{◌≡◌, ℕ, zero, suc, ◌+◌, ◌-◌, ◌*◌, ◌/◌, ◌%◌, ◌==◌, ◌<◌, ◌≤◌, Bool, true, false, List, [], ◌∷◌, length, set, get_or, map, refl, sym, ◌∙◌, ap, arith}
use Rattle.std.specs.Prelude.{Option, Some, None, slice_get, nat_le, nat_lt, ◌&&◌, IsSome, position, if◌then◌else◌}
use Rattle.std.proofs.lemmas.Option.{slice_get_within}
use Rattle.std.proofs.lemmas.List.{length-set}
use Rattle.std.proofs.lemmas.List.Quantifiers.{position-Some}
use Rattle.std.proofs.lemmas.Bool.{eqb-true, eqb-false, ne_eqb, leb-true, le-leb, eq-eqb, and_parts}
use Rattle.finite.proofs.Finding.{find_nowhere}
use Rattle.image.specs.declared.ranges.TextRange.{TextRange}
use Rattle.image.specs.Texts.{text_end, covers, word_in, word_at}
use Rattle.layout.specs.Laid.{item_at}
use Rattle.layout.proofs.Places.{item_place}
use Rattle.patcher.specs.Texts.{text_span, range_with, text_with}

set_same : {X : Type 0} (xs : List X) (k : ℕ) (w : X) → k < length xs → slice_get (set xs k w) k ≡ Some w
set_same [] k w lt = absurd (omega arith)
set_same (x ∷ xs) zero w lt = refl
set_same (x ∷ xs) (suc k) w lt = set_same xs k w (omega arith)

set_other : {X : Type 0} (xs : List X) (j k : ℕ) (w : X) → (j ≡ k → ⊥) → slice_get (set xs k w) j ≡ slice_get xs j
set_other [] j k w n = refl
set_other (x ∷ xs) zero zero w n = absurd (n refl)
set_other (x ∷ xs) zero (suc k) w n = refl
set_other (x ∷ xs) (suc j) zero w n = refl
set_other (x ∷ xs) (suc j) (suc k) w n = set_other xs j k w (λ e. n (ap suc e))

pick : {X : Type 0} (t same : Bool) (u v : Option X) (w : X) → (t ≡ true → same ≡ true → u ≡ Some w) → (t ≡ true → same ≡ false → u ≡ v) → (same ≡ true → t ≡ true)
    → (if t then u else None) ≡ (if same then Some w else (if t then v else None))
pick true true u v w f g h = f refl refl
pick true false u v w f g h = g refl refl
pick false true u v w f g h = let e = h refl in absurd (cc)
pick false false u v w f g h = refl

pub item_with : {X : Type 0} (base : ℕ) (xs : List X) (a : ℕ) (w : X) (b : ℕ) → IsSome (item_at base xs a)
    → item_at base (set xs ((a - base) / 4) w) b ≡ (if b == a then Some w else item_at base xs b)
unfolding item_at
item_with base xs a w b h = by_item (item_at base xs a) refl h
  where
    test : ℕ → Bool
    test c = nat_le base c && ((c - base) % 4 == 0)

    at_place : (k : ℕ) (x : _) → a ≡ base + 4 * k → slice_get xs k ≡ Some x
        → (if nat_le base b && ((b - base) % 4 == 0) then slice_get (set xs ((a - base) / 4) w) ((b - base) / 4) else None)
        ≡ (if b == a then Some w else (if nat_le base b && ((b - base) % 4 == 0) then slice_get xs ((b - base) / 4) else None))
    at_place k x e g =
        let i : (a - base) / 4 ≡ k = omega (arith, e) in
        let lt = slice_get_within xs k x g in
        pick (nat_le base b && ((b - base) % 4 == 0)) (b == a) (slice_get (set xs ((a - base) / 4) w) ((b - base) / 4)) (slice_get xs ((b - base) / 4)) w
        (λ t s. let same : b ≡ a = eqb-true b a s in rw same (set_same xs ((a - base) / 4) w (omega (arith, i, lt))))
        (λ t s.
        let n : (b ≡ a → ⊥) = eqb-false b a s in
        let parts = and_parts (nat_le base b) ((b - base) % 4 == 0) t in
        let low = leb-true base b parts.0 in
        let whole = eqb-true ((b - base) % 4) 0 parts.1 in
        set_other xs ((b - base) / 4) ((a - base) / 4) w (λ q. n (omega (arith, q, low, whole, e, i))))
        (λ s.
        let same : b ≡ a = eqb-true b a s in
        let p : nat_le base b ≡ true = le-leb base b (omega (arith, e, same)) in
        let q : ((b - base) % 4 == 0) ≡ true = eq-eqb ((b - base) % 4) 0 (omega (arith, e, same)) in
        rw (p, q) refl)

    by_item : (o : Option _) → item_at base xs a ≡ o → IsSome o
        → (if nat_le base b && ((b - base) % 4 == 0) then slice_get (set xs ((a - base) / 4) w) ((b - base) / 4) else None)
        ≡ (if b == a then Some w else (if nat_le base b && ((b - base) % 4 == 0) then slice_get xs ((b - base) / 4) else None))
    by_item None e s = absurd (cc)
    by_item (Some x) e s = let t = item_place base xs a x e in at_place t.0 x t.1 t.2

-- ---- text
covers_kept : (a w b : ℕ) (t : TextRange) → covers b (range_with a w t) ≡ covers b t
covers_kept a w b t = ap (λ (n : ℕ). nat_le t.from b && nat_lt b (t.from + 4 * n)) (length-set t.words ((a - t.from) / 4) w)

covered_low : (b : ℕ) (t : TextRange) → covers b t ≡ true → t.from ≤ b
covered_low b t e = leb-true t.from b (and_parts (nat_le t.from b) (nat_lt b (text_end t)) e).0

in_range : (b : ℕ) (t : TextRange) → t.from ≤ b → word_in b t ≡ item_at t.from t.words b
unfolding word_in item_at
in_range b t le = let p : nat_le t.from b ≡ true = le-leb t.from b le in rw p refl

pub word_first : (t : TextRange) (ts : List TextRange) (b : ℕ) → covers b t ≡ true → word_at (t ∷ ts) b ≡ word_in b t
unfolding word_at
word_first t ts b e = rw e refl

pub word_later : (t : TextRange) (ts : List TextRange) (b : ℕ) → covers b t ≡ false → word_at (t ∷ ts) b ≡ word_at ts b
unfolding word_at
word_later t ts b e = rw e refl

no_word : (a : ℕ) → IsSome (word_at [] a) → ⊥
unfolding word_at
no_word a h = cc

in_range_with : (a w b : ℕ) (t : TextRange) → t.from ≤ a → t.from ≤ b → IsSome (word_in a t) → word_in b (range_with a w t) ≡ (if b == a then Some w else word_in b t)
in_range_with a w b t la lb h =
    in_range b (range_with a w t) lb
    ∙ item_with t.from t.words a w b (rw (sym (in_range a t la)) h)
    ∙ ap (λ (o : Option ℕ). if b == a then Some w else o) (sym (in_range b t lb))

pub word_with : (a w b : ℕ) (ts : List TextRange) → IsSome (word_at ts a) → word_at (text_with a w ts) b ≡ (if b == a then Some w else word_at ts b)
word_with a w b [] h = absurd (no_word a h)
word_with a w b (t ∷ ts) h = by_covers (covers a t) (covers b t) refl refl (word_with a w b ts)
  where
    differ : (c d : Bool) → covers a t ≡ c → covers b t ≡ d → (c ≡ d → ⊥) → (b == a) ≡ false
    differ c d ea eb n = ne_eqb b a (λ e. n (sym ea ∙ ap (λ (k : ℕ). covers k t) (sym e) ∙ eb))

    by_covers : (ca cb : Bool) → covers a t ≡ ca → covers b t ≡ cb
        → (IsSome (word_at ts a) → word_at (text_with a w ts) b ≡ (if b == a then Some w else word_at ts b))
        → word_at (if ca then range_with a w t ∷ ts else t ∷ text_with a w ts) b ≡ (if b == a then Some w else word_at (t ∷ ts) b)
    by_covers true true ea eb ih =
        word_first (range_with a w t) ts b (covers_kept a w b t ∙ eb)
        ∙ in_range_with a w b t (covered_low a t ea) (covered_low b t eb) (rw (sym (word_first t ts a ea)) h)
        ∙ ap (λ (o : Option ℕ). if b == a then Some w else o) (sym (word_first t ts b eb))
    by_covers true false ea eb ih =
        word_later (range_with a w t) ts b (covers_kept a w b t ∙ eb)
        ∙ (rw (differ true false ea eb (λ e. cc)) (sym (word_later t ts b eb)))
    by_covers false true ea eb ih =
        word_first t (text_with a w ts) b eb
        ∙ (rw (differ false true ea eb (λ e. cc)) (sym (word_first t ts b eb)))
    by_covers false false ea eb ih =
        word_later t (text_with a w ts) b eb
        ∙ ih (rw (sym (word_later t ts a ea)) h)
        ∙ ap (λ (o : Option ℕ). if b == a then Some w else o) (sym (word_later t ts b eb))

-- the range is changed where it stands
set_first : (a w : ℕ) (ts : List TextRange) (i : ℕ) (d : TextRange) → i < length ts → covers a (get_or ts i d) ≡ true → ((k : ℕ) → k < i → covers a (get_or ts k d) ≡ false)
    → set ts i (range_with a w (get_or ts i d)) ≡ text_with a w ts
set_first a w [] i d lt c f = absurd (omega arith)
set_first a w (t ∷ ts) zero d lt c f = rw c refl
set_first a w (t ∷ ts) (suc i) d lt c f =
    let first : covers a t ≡ false = f 0 (omega arith) in
    rw first (ap (λ (us : List TextRange). t ∷ us) (set_first a w ts i d (omega arith) c (λ k l. f (suc k) (omega arith))))

pub set_here : (a w : ℕ) (ts : List TextRange) (i : ℕ) (d : TextRange) → position (covers a) ts ≡ Some i → set ts i (range_with a w (get_or ts i d)) ≡ text_with a w ts
set_here a w ts i d e = let p = position-Some (covers a) ts i d e in set_first a w ts i d p.0 p.1 p.2

-- a word stands in some range
pub placed : (a : ℕ) (ts : List TextRange) (o : Option ℕ) → IsSome (word_at ts a) → o ≡ position (covers a) ts → IsSome o
unfolding word_at
placed a ts (Some i) h e = refl
placed a ts None h e = let n = find_nowhere (covers a) ts (sym e) in let k = rw n at h in absurd (cc)

pub spans_kept : (a w : ℕ) (ts : List TextRange) → map text_span (text_with a w ts) ≡ map text_span ts
spans_kept a w [] = refl
spans_kept a w (t ∷ ts) = by_covers (covers a t) (spans_kept a w ts)
  where
    by_covers : (c : Bool) → map text_span (text_with a w ts) ≡ map text_span ts → map text_span (if c then range_with a w t ∷ ts else t ∷ text_with a w ts) ≡ map text_span (t ∷ ts)
    by_covers true ih = ap (λ (n : ℕ). (t.from, n) ∷ map text_span ts) (length-set t.words ((a - t.from) / 4) w)
    by_covers false ih = ap (λ (us : List (ℕ × ℕ)). text_span t ∷ us) ih
