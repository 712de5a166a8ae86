-- A region beside each text range is one that a JAL reaches, and the other way round.
use Rattle.std.proofs.Common.{◌≡◌, ◌∙◌, ℕ, zero, suc, ◌+◌, ◌-◌, ◌/◌, ◌%◌, ◌<◌, ◌≤◌, ◌==◌, ◌||◌, ◌&&◌, inl, inr, Bool, true, false, cond, pos, neg_ℤ, ◌-ℤ◌, unsigned_abs, nat_le, nat_lt, List, [], ◌∷◌, All, IsSome, Option, Some, None, option_and_then, slice_get, length, ◌↔◌, refl, sym, ap, subst, arith}
use Rattle.std.proofs.lemmas.Bool.{cases_lt, cases_Bool}
use Rattle.std.proofs.lemmas.Int.{ints}
use Rattle.std.proofs.lemmas.Bool.Decides.{nat_tests}
use Rattle.std.proofs.lemmas.Bool.{false≢true}
use Rattle.std.proofs.lemmas.List.Elements.{All-head, All-tail}
use Rattle.std.specs.List.{find}
use Rattle.std.proofs.lemmas.Option.{slice_get-get_or}
use Rattle.std.specs.Prelude.{is_some}
use Rattle.std.specs.List.{list_all, list_any}
use Rattle.oc_base.specs.declared.range.Range.{Range}
use Rattle.rv_isa.specs.Ranges.{IsOffJ}
use Rattle.image.specs.declared.ranges.TextRange.{TextRange}
use Rattle.image.specs.Picture.{IsText, IsPaged}
use Rattle.image.specs.Texts.{covers, word_in, word_at, text_end}
use Rattle.near_region.specs.Regions.{is_beside, AreNear, IsNear}

-- ---- distances
abs_back : (n : ℕ) → unsigned_abs (neg_ℤ (pos n)) ≡ n
abs_back zero = refl
abs_back (suc n) = refl

even_apart : (a b : ℕ) → a % 4 ≡ 0 → b % 4 ≡ 0 → unsigned_abs (pos b -ℤ pos a) % 2 ≡ 0
even_apart a b ea eb = elim (cases_lt b a) [
  | inl lt ↦ (let e : pos b -ℤ pos a ≡ neg_ℤ (pos (a - b)) = omega (arith, ints, lt) in
      let even : (a - b) % 2 ≡ 0 = omega (arith, ea, eb, lt) in
      ap (λ z. unsigned_abs z % 2) e ∙ ap (λ n. n % 2) (abs_back (a - b)) ∙ even)
  | inr le ↦ (let e : pos b -ℤ pos a ≡ pos (b - a) = omega (arith, ints, le) in
      let even : (b - a) % 2 ≡ 0 = omega (arith, ea, eb, le) in
      ap (λ z. unsigned_abs z % 2) e ∙ even)
]

ahead : (a b : ℕ) → a % 4 ≡ 0 → b % 4 ≡ 0 → b ≤ a + 1048572 → a ≤ b + 1048572 → IsOffJ (pos b -ℤ pos a)
ahead a b ea eb up down = (record { low = omega (arith, ints, up, down); high = omega (arith, ints, up, down) }, even_apart a b ea eb)

near_by : (a b : ℕ) → a % 4 ≡ 0 → b % 4 ≡ 0 → b ≤ a + 1048572 → a ≤ b + 1048572 → AreNear a b
near_by a b ea eb up down = (ahead a b ea eb up down, ahead b a eb ea down up)

near_bounds : (a b : ℕ) → AreNear a b → (b ≤ a + 1048574) × (a ≤ b + 1048574)
near_bounds a b near =
    let up = near.0.0.high in let down = near.1.0.high in (omega (arith, ints, up), omega (arith, ints, down))

-- ---- words of text
-- a word of a text range
record IsWordOf (t : TextRange) (a : ℕ) : Type 0 where
  low : t.from ≤ a
  high : a + 4 ≤ text_end t
  whole : a % 4 ≡ 0

both : (x y : Bool) → (x && y) ≡ true → (x ≡ true) × (y ≡ true)
both true y e = (refl, e)
both false y e = absurd (false≢true e)

covered : (a : ℕ) (t : TextRange) → covers a t ≡ true → (t.from ≤ a) × (a < text_end t)
covered a t e = let s = both (nat_le t.from a) (nat_lt a (text_end t)) e in (grind (arith, nat_tests, s.0), grind (arith, nat_tests, s.1))

covering : (a : ℕ) (t : TextRange) → t.from ≤ a → a < text_end t → covers a t ≡ true
covering a t low high = let l : nat_le t.from a ≡ true = grind (arith, nat_tests, low) in let h : nat_lt a (text_end t) ≡ true = grind (arith, nat_tests, high) in rw (l, h) refl

some_cond : (b : Bool) (o : Option ℕ) → is_some (cond b o None) ≡ true → b ≡ true
some_cond true o e = refl
some_cond false o e = absurd (false≢true e)

in_words : (a : ℕ) (t : TextRange) → IsText t → covers a t ≡ true → IsSome (word_in a t) → IsWordOf t a
unfolding word_in
in_words a t fit e some =
    let c = covered a t e in
    let low = c.0 in let high = c.1 in let from = fit.whole in
    let q = some_cond ((a - t.from) % 4 == 0) (slice_get t.words ((a - t.from) / 4)) some in
    let m : (a - t.from) % 4 ≡ 0 = grind (arith, nat_tests, q) in
    record { low = low; high = omega (arith, low, high, m); whole = omega (arith, low, from, m) }

word_there : (a : ℕ) (t : TextRange) → IsText t → a % 4 ≡ 0 → covers a t ≡ true → IsSome (word_in a t)
unfolding word_in
word_there a t fit whole e =
    let c = covered a t e in
    let low = c.0 in let high = c.1 in let from = fit.whole in
    let m : ((a - t.from) % 4 == 0) ≡ true = (let n : (a - t.from) % 4 ≡ 0 = omega (arith, low, from, whole) in grind (arith, nat_tests, n)) in
    let lt : (a - t.from) / 4 < length t.words = omega (arith, low, high) in
    rw (m, slice_get-get_or t.words ((a - t.from) / 4) 0 lt) refl

-- ---- one text range
beside_ends : (r : Range) (t : TextRange) → is_beside r t ≡ true → (r.to ≤ t.from + 1048576) × (text_end t ≤ r.from + 1048576)
beside_ends r t e =
    let s = both (nat_le r.to (t.from + 1048576)) (nat_le (text_end t - 1048576) r.from) e in
    (grind (arith, nat_tests, s.0), (let h : text_end t - 1048576 ≤ r.from = grind (arith, nat_tests, s.1) in omega (arith, h)))

ends_beside : (r : Range) (t : TextRange) → r.to ≤ t.from + 1048576 → text_end t ≤ r.from + 1048576 → is_beside r t ≡ true
ends_beside r t up down =
    let l : nat_le r.to (t.from + 1048576) ≡ true = grind (arith, nat_tests, up) in
    let d : text_end t - 1048576 ≤ r.from = omega (arith, down) in
    let h : nat_le (text_end t - 1048576) r.from ≡ true = grind (arith, nat_tests, d) in
    rw (l, h) refl

-- ---- all of them
found_here : (a : ℕ) (t : TextRange) (ts : List TextRange) → covers a t ≡ true → IsSome (word_at (t ∷ ts) a) → IsSome (word_in a t)
unfolding word_at
found_here a t ts here some = subst (λ b. IsSome (option_and_then (word_in a) (cond b (Some t) (find (covers a) ts)))) here some

found_later : (a : ℕ) (t : TextRange) (ts : List TextRange) → covers a t ≡ false → IsSome (word_at (t ∷ ts) a) → IsSome (word_at ts a)
unfolding word_at
found_later a t ts other some = subst (λ b. IsSome (option_and_then (word_in a) (cond b (Some t) (find (covers a) ts)))) other some

be_here : (a : ℕ) (t : TextRange) (ts : List TextRange) → covers a t ≡ true → IsSome (word_in a t) → IsSome (word_at (t ∷ ts) a)
unfolding word_at
be_here a t ts here some = subst (λ b. IsSome (option_and_then (word_in a) (cond b (Some t) (find (covers a) ts)))) (sym here) some

be_later : (a : ℕ) (t : TextRange) (ts : List TextRange) → covers a t ≡ false → IsSome (word_at ts a) → IsSome (word_at (t ∷ ts) a)
unfolding word_at
be_later a t ts other some = subst (λ b. IsSome (option_and_then (word_in a) (cond b (Some t) (find (covers a) ts)))) (sym other) some

any_later : (x y : Bool) → (x || y) ≡ true → x ≡ false → y ≡ true
any_later true y e f = absurd (false≢true (sym f))
any_later false y e f = e

any_here : (x y : Bool) → x ≡ true → (x || y) ≡ true
any_here true y e = refl
any_here false y e = absurd (false≢true e)

any_more : (x y : Bool) → y ≡ true → (x || y) ≡ true
any_more true y e = refl
any_more false y e = e

module _ (r : Range) (paged : IsPaged r) where
  -- a JAL at a and one at each word of the region reach each other
  abbrev IsNearAt : ℕ → Type 0
  IsNearAt a = (b : ℕ) → r.from ≤ b → b < r.to → b % 4 ≡ 0 → AreNear a b

  near_at : (t : TextRange) (a : ℕ) → is_beside r t ≡ true → IsWordOf t a → IsNearAt a
  near_at t a e w b low high whole =
      let ends = beside_ends r t e in
      let up = ends.0 in let down = ends.1 in let from = w.low in let to = w.high in let at = w.whole in let last = paged.last in
      near_by a b at whole (omega (arith, up, from, high, whole, last)) (omega (arith, down, to, low))

  all_near : (texts : List TextRange) → All IsText texts → list_all (is_beside r) texts ≡ true → (a : ℕ) → IsSome (word_at texts a) → IsNearAt a
  unfolding word_at
  all_near [] fit e a some = absurd (false≢true some)
  all_near (t ∷ ts) fit e a some =
      let s = both (is_beside r t) (list_all (is_beside r) ts) e in
      elim (cases_Bool (covers a t)) [
        | inl here ↦ near_at t a s.0 (in_words a t (All-head IsText t ts fit) here (found_here a t ts here some))
        | inr other ↦ all_near ts (All-tail IsText t ts fit) s.1 a (found_later a t ts other some)
      ]

  all_beside : (ts : List TextRange) → All IsText ts → r.from < r.to → ((a : ℕ) → a % 4 ≡ 0 → list_any (covers a) ts ≡ true → IsNearAt a) → list_all (is_beside r) ts ≡ true
  all_beside [] fit some near = refl
  all_beside (t ∷ ts) fit some near =
      let here = All-head IsText t ts fit in
      let start = here.some in let whole = here.whole in let first = paged.first in let last = paged.last in
      let low : AreNear t.from (r.to - 4) = near t.from whole
      (any_here (covers t.from t) (list_any (covers t.from) ts) (covering t.from t (omega arith) start))
      (r.to - 4) (omega (arith, some, first, last)) (omega (arith, some)) (omega (arith, some, last)) in
      let top : AreNear (text_end t - 4) r.from = near (text_end t - 4) (omega (arith, whole, start))
      (any_here (covers (text_end t - 4) t) (list_any (covers (text_end t - 4)) ts) (covering (text_end t - 4) t (omega (arith, whole, start)) (omega (arith, start))))
      r.from (omega arith) some (omega (arith, first)) in
      let up = (near_bounds t.from (r.to - 4) low).0 in let down = (near_bounds (text_end t - 4) r.from top).1 in
      let e : is_beside r t ≡ true = ends_beside r t (omega (arith, up, last, whole)) (omega (arith, down, first, whole)) in
      rw (e) (all_beside ts (All-tail IsText t ts fit) some (λ a w any. near a w (any_more (covers a t) (list_any (covers a) ts) any)))

there : (texts : List TextRange) → All IsText texts → (a : ℕ) → a % 4 ≡ 0 → list_any (covers a) texts ≡ true → IsSome (word_at texts a)
unfolding word_at
there [] fit a whole e = absurd (false≢true e)
there (t ∷ ts) fit a whole e = elim (cases_Bool (covers a t)) [
  | inl here ↦ be_here a t ts here (word_there a t (All-head IsText t ts fit) whole here)
  | inr other ↦ be_later a t ts other (there ts (All-tail IsText t ts fit) a whole (any_later (covers a t) (list_any (covers a) ts) e other))
]

pub beside_near : (texts : List TextRange) (r : Range) → All IsText texts → IsPaged r → ((r.from == r.to || list_all (is_beside r) texts) ≡ true) ↔ IsNear texts r
beside_near texts r fit paged = (to, from)
  where
    to : (r.from == r.to || list_all (is_beside r) texts) ≡ true → IsNear texts r
    to e a b some low high whole = elim (cases_Bool (r.from == r.to)) [
      | inl empty ↦ (let same : r.from ≡ r.to = grind (arith, nat_tests, empty) in absurd (omega (arith, same, low, high)))
      | inr more ↦ all_near r paged texts fit (any_later (r.from == r.to) (list_all (is_beside r) texts) e more) a some b low high whole
    ]

    from : IsNear texts r → (r.from == r.to || list_all (is_beside r) texts) ≡ true
    from near = elim (cases_Bool (r.from == r.to)) [
      | inl empty ↦ any_here (r.from == r.to) (list_all (is_beside r) texts) empty
      | inr more ↦ (let ordered = paged.ordered in let apart : r.from < r.to = grind (arith, nat_tests, more, ordered) in
          any_more (r.from == r.to) (list_all (is_beside r) texts) (all_beside r paged texts fit apart (λ a whole any b low high w. near a b (there texts fit a whole any) low high w)))
    ]

-- the same for a region that isn't empty
pub some_near : (texts : List TextRange) (r : Range) → All IsText texts → IsPaged r → (r.from ≡ r.to → ⊥) → (b : Bool) → b ≡ list_all (is_beside r) texts → (b ≡ true) ↔ IsNear texts r
some_near texts r fit paged some b e =
    let near = beside_near texts r fit paged in
    let more : (r.from == r.to) ≡ false = grind (arith, nat_tests, some) in
    ((λ t. near.0 (any_more (r.from == r.to) (list_all (is_beside r) texts) (sym e ∙ t))), (λ n. e ∙ any_later (r.from == r.to) (list_all (is_beside r) texts) (near.1 n) more))
