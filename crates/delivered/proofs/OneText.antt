-- Text is known by where its ranges are and by the word at each address.
use Rattle.std.proofs.Common.{◌≡◌, ℕ, zero, suc, ◌+◌, ◌-◌, ◌*◌, ◌/◌, ◌%◌, ◌<◌, ◌≤◌, Bool, true, false, List, [], ◌∷◌, length, map, refl, sym, ap, ◌∙◌, arith}
use Rattle.std.specs.Prelude.{Some, All, AllPairs, slice_get}
use Rattle.std.proofs.lemmas.Bool.Decides.{nat_tests}
use Rattle.std.proofs.lemmas.List.Elements.{All-tail}
use Rattle.image.specs.declared.ranges.TextRange.{TextRange}
use Rattle.image.specs.Texts.{text_end, covers, word_in, word_at}
use Rattle.patcher.specs.Texts.{text_span}
use Rattle.patcher.proofs.Words.{word_first, word_later}

-- lists of one length are known by their elements
pub same_items : (xs ys : List ℕ) → length xs ≡ length ys → ((k v w : ℕ) → slice_get xs k ≡ Some v → slice_get ys k ≡ Some w → v ≡ w) → xs ≡ ys
same_items [] [] n same = refl
same_items [] (y ∷ ys) n same = absurd (omega (arith, n))
same_items (x ∷ xs) [] n same = absurd (omega (arith, n))
same_items (x ∷ xs) (y ∷ ys) n same =
    ap (λ z. z ∷ xs) (same 0 x y refl refl) ∙ ap (λ zs. y ∷ zs) (same_items xs ys (omega (arith, n)) (λ k v w. same (suc k) v w))

pub get_below : (xs : List ℕ) (k v : ℕ) → slice_get xs k ≡ Some v → k < length xs
get_below [] k v e = absurd (cc)
get_below (x ∷ xs) zero v e = omega arith
get_below (x ∷ xs) (suc k) v e = let lt = get_below xs k v e in omega (arith, lt)

word_of : (t : TextRange) (k v : ℕ) → slice_get t.words k ≡ Some v → word_in (t.from + 4 * k) t ≡ Some v
unfolding word_in
word_of t k v e =
    let off : t.from + 4 * k - t.from ≡ 4 * k = omega arith in
    let whole : 4 * k % 4 ≡ 0 = omega arith in
    let place : 4 * k / 4 ≡ k = omega arith in
    rw (off, whole, place) e

covers_it : (t : TextRange) (k v : ℕ) → slice_get t.words k ≡ Some v → covers (t.from + 4 * k) t ≡ true
covers_it t k v e = let lt = get_below t.words k v e in grind (arith, nat_tests)

first_word : (t : TextRange) (ts : List TextRange) (k v : ℕ) → slice_get t.words k ≡ Some v → word_at (t ∷ ts) (t.from + 4 * k) ≡ Some v
first_word t ts k v e = word_first t ts (t.from + 4 * k) (covers_it t k v e) ∙ word_of t k v e

no_words : (a v : ℕ) → word_at [] a ≡ Some v → ⊥
unfolding word_at
no_words a v e = cc

low : (a : ℕ) (t : TextRange) → covers a t ≡ true → t.from ≤ a
low a t e = grind (arith, nat_tests)

-- a word of later ranges lies behind
behind : (n : ℕ) (ts : List TextRange) (a v : ℕ) → All (λ s. n ≤ s.from) ts → word_at ts a ≡ Some v → n ≤ a
behind n [] a v all e = absurd (no_words a v e)
behind n (t ∷ ts) a v all e = by_cover (covers a t) refl (λ c. behind n ts a v (All-tail (λ s. n ≤ s.from) t ts all) (sym (word_later t ts a c) ∙ e))
  where
    by_cover : (b : Bool) → covers a t ≡ b → (covers a t ≡ false → n ≤ a) → n ≤ a
    by_cover true c later = let from = low a t c in let first = all 0 t (omega arith) in omega (arith, from, first)
    by_cover false c later = later c

uncovered : (a : ℕ) (t : TextRange) → text_end t ≤ a → covers a t ≡ false
uncovered a t le = grind (arith, nat_tests)

later_all : (t : TextRange) (ts : List TextRange) → AllPairs (λ s u. text_end s ≤ u.from) (t ∷ ts) → All (λ s. text_end t ≤ s.from) ts
later_all t ts pairs k d lt = pairs 0 (suc k) d (omega arith) (omega (arith, lt))

pairs_tail : (t : TextRange) (ts : List TextRange) → AllPairs (λ s u. text_end s ≤ u.from) (t ∷ ts) → AllPairs (λ s u. text_end s ≤ u.from) ts
pairs_tail t ts pairs i j d lt in' = pairs (suc i) (suc j) d (omega (arith, lt)) (omega (arith, in'))

pub same_text : (ts us : List TextRange) → AllPairs (λ s u. text_end s ≤ u.from) ts → AllPairs (λ s u. text_end s ≤ u.from) us → map text_span ts ≡ map text_span us
    → ((a v w : ℕ) → word_at ts a ≡ Some v → word_at us a ≡ Some w → v ≡ w) → ts ≡ us
same_text [] [] rise rise' spans same = refl
same_text [] (u ∷ us) rise rise' spans same = absurd (cc)
same_text (t ∷ ts) [] rise rise' spans same = absurd (cc)
same_text (t ∷ ts) (u ∷ us) rise rise' spans same =
    let head : text_span t ≡ text_span u = cc in
    let rest : map text_span ts ≡ map text_span us = cc in
    let from : t.from ≡ u.from = ap (λ (x : ℕ × ℕ). x.0) head in
    let size : length t.words ≡ length u.words = ap (λ (x : ℕ × ℕ). x.1) head in
    let words : t.words ≡ u.words = same_items t.words u.words size (λ k v w e f.
    same (t.from + 4 * k) v w (first_word t ts k v e) (ap (λ n. word_at (u ∷ us) (n + 4 * k)) from ∙ first_word u us k w f)) in
    let one : t ≡ u = λ i. record { from = from i; words = words i } in
    let more : ts ≡ us = same_text ts us (pairs_tail t ts rise) (pairs_tail u us rise') rest (λ a v w e f.
    same a v w
    (word_later t ts a (uncovered a t (behind (text_end t) ts a v (later_all t ts rise) e)) ∙ e)
    (word_later u us a (uncovered a u (behind (text_end u) us a w (later_all u us rise') f)) ∙ f)) in
    ap (λ x. x ∷ ts) one ∙ ap (λ xs. u ∷ xs) more
