-- The pieces that text ranges leave.
use Rattle.std.proofs.Common.{◌≡◌, ℕ, zero, suc, ◌<◌, ◌≤◌, Bool, true, false, List, [], ◌∷◌, ◌++◌, length, map, take, drop, refl, sym, ap, ◌∙◌, arith}
use Rattle.std.specs.List.{All, AllWithin}
use Rattle.std.proofs.lemmas.Bool.{le-leb, lt-leb, and_left, and_right}
use Rattle.std.proofs.lemmas.List.{map-append, append_assoc}
use Rattle.std.proofs.lemmas.List.Elements.{All-tail}
use Rattle.image.specs.declared.ranges.TextRange.{TextRange}
use Rattle.image.specs.Texts.{text_end}
use Rattle.image.specs.Picture.{IsText}
use Rattle.relocs.specs.Built.{piece, is_within, gaps}

gaps_in : (a to : ℕ) (t : TextRange) (ts : List TextRange) → a ≤ t.from → text_end t ≤ to → gaps a to (t ∷ ts) ≡ piece a t.from ++ gaps (text_end t) to ts
gaps_in a to t ts h k = rw (le-leb a t.from h, le-leb (text_end t) to k) refl

gaps_out : (a to : ℕ) (t : TextRange) (ts : List TextRange) → is_within a to t ≡ false → gaps a to (t ∷ ts) ≡ gaps a to ts
gaps_out a to t ts e = rw e refl

pub passed_in : {Y : Type 0} (f : ℕ × ℕ → Y) (old : List Y) (a to : ℕ) (t : TextRange) (ts : List TextRange) → a ≤ t.from → text_end t ≤ to → (old ++ map f (piece a t.from)) ++ map f (gaps (text_end t) to ts) ≡ old ++ map f (gaps a to (t ∷ ts))
passed_in f old a to t ts h k = append_assoc old (map f (piece a t.from)) (map f (gaps (text_end t) to ts)) ∙ ap (λ ys. old ++ ys) (sym (map-append f (piece a t.from) (gaps (text_end t) to ts)) ∙ ap (map f) (sym (gaps_in a to t ts h k)))

pub passed_early : (a to : ℕ) (t : TextRange) (ts : List TextRange) → t.from < a → gaps a to ts ≡ gaps a to (t ∷ ts)
passed_early a to t ts lt = sym (gaps_out a to t ts (and_left _ _ (lt-leb a t.from lt)))

pub passed_late : (a to : ℕ) (t : TextRange) (ts : List TextRange) → to < text_end t → gaps a to ts ≡ gaps a to (t ∷ ts)
passed_late a to t ts lt = sym (gaps_out a to t ts (and_right _ _ (lt-leb (text_end t) to lt)))

-- text ranges that start too early leave the pieces as they are
pub gaps_skip : (a to n : ℕ) (ts : List TextRange) → AllWithin (λ t. t.from < a) ts 0 n → n ≤ length ts → gaps a to (drop n ts) ≡ gaps a to ts
gaps_skip a to zero ts h le = refl
gaps_skip a to (suc n) [] h le = absurd (omega arith)
gaps_skip a to (suc n) (t ∷ ts) h le = gaps_skip a to n ts (λ k d low lt. h (suc k) d (omega arith) (omega (arith, lt))) (omega (arith, le)) ∙ passed_early a to t ts (h 0 t (omega arith) (omega arith))

late_step : (c : Bool) (a to : ℕ) (t : TextRange) (xs ys : List TextRange) → is_within a to t ≡ c → ((b : ℕ) → gaps b to xs ≡ gaps b to ys) → gaps a to (t ∷ xs) ≡ gaps a to (t ∷ ys)
late_step true a to t xs ys e h = rw e (ap (λ rs. piece a t.from ++ rs) (h (text_end t)))
late_step false a to t xs ys e h = rw e (h a)

all_late : (a to : ℕ) (ts : List TextRange) → All IsText ts → All (λ t. to ≤ t.from) ts → gaps a to [] ≡ gaps a to ts
all_late a to [] some h = refl
all_late a to (t ∷ ts) some h = all_late a to ts (All-tail IsText t ts some) (All-tail (λ u. to ≤ u.from) t ts h) ∙ passed_late a to t ts (let s = (some 0 t (omega arith)).some in let l = h 0 t (omega arith) in omega (arith, s, l))

-- text ranges that start too late do so too
pub gaps_stop : (a to n : ℕ) (ts : List TextRange) → All IsText ts → AllWithin (λ t. to ≤ t.from) ts n (length ts) → gaps a to (take n ts) ≡ gaps a to ts
gaps_stop a to zero ts some h = all_late a to ts some (λ k d lt. h k d (omega arith) lt)
gaps_stop a to (suc n) [] some h = refl
gaps_stop a to (suc n) (t ∷ ts) some h = late_step (is_within a to t) a to t (take n ts) ts refl (λ b. gaps_stop b to n ts (All-tail IsText t ts some) (λ k d low lt. h (suc k) d (omega (arith, low)) (omega (arith, lt))))
