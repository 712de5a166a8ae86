-- A text that is cut at the first place of a byte, and lines that are read from the front.
use Rattle.std.proofs.Common.{◌≡◌, ℕ, ◌+◌, ◌-◌, ◌<◌, Bool, true, false, List, [], ◌∷◌, length, take, drop, Some, None, refl, ap, sym, arith, eqb, cond, ◌∙◌, suc, subst}
use Rattle.std.specs.List.{slice_split, position_or_len, before_first}
use Rattle.std.proofs.lemmas.Bool.{false_from_ne_true, ne_eqb, lt-ltb, le-ltb}
use Rattle.std.proofs.lemmas.List.{take_all}
use Rattle.sched_log.specs.Parts.{behind}
use Rattle.std.proofs.lemmas.List.Elements.{All-from_get_or}
use Rattle.std.proofs.lemmas.List.Splits.{slice_split_first, slice_split_none, length-slice_split}
use Rattle.std.proofs.lemmas.List.Sums.{position_or_len_is}
use Rattle.oc_base.proofs.Told.{rest_from}
use Rattle.memchr.specs.Find.{Nowhere, NoneBefore, Passes, is_byte}
use Rattle.texts.specs.Texts.{lines_of, without_last_empty}

-- the first place of a byte, and the length where there is none
place_at : (c : ℕ) (bs : List ℕ) (at : ℕ) → NoneBefore (Passes (is_byte c) bs) 0 (length bs) at → Passes (is_byte c) bs at → position_or_len (λ b. eqb b c) bs ≡ at
place_at c bs at none here = position_or_len_is (λ b. eqb b c) bs at 0 (omega (arith, none.high)) (λ k lt. false_from_ne_true _ (none.before k (omega arith) lt)) (λ lt. here)

place_nowhere : (c : ℕ) (bs : List ℕ) → Nowhere (Passes (is_byte c) bs) 0 (length bs) → position_or_len (λ b. eqb b c) bs ≡ length bs
place_nowhere c bs none = position_or_len_is (λ b. eqb b c) bs (length bs) 0 (omega arith) (λ k lt. false_from_ne_true _ (none k (omega arith) lt)) (λ lt. absurd (omega (arith, lt)))

pub cut_at : (c : ℕ) (bs : List ℕ) (at : ℕ) → NoneBefore (Passes (is_byte c) bs) 0 (length bs) at → Passes (is_byte c) bs at → slice_split (λ b. eqb b c) bs ≡ take at bs ∷ slice_split (λ b. eqb b c) (take (length bs - (at + 1)) (drop (at + 1) bs))
cut_at c bs at none here =
    let is = place_at c bs at none here in
    let parts : slice_split (λ b. eqb b c) bs ≡ take at bs ∷ slice_split (λ b. eqb b c) (drop (at + 1) bs) = subst (λ n. slice_split (λ b. eqb b c) bs ≡ take n bs ∷ slice_split (λ b. eqb b c) (drop (n + 1) bs)) is (slice_split_first (λ b. eqb b c) bs 0 (subst (λ n. n < length bs) (sym is) none.high)) in
    parts ∙ ap (λ rest. take at bs ∷ slice_split (λ b. eqb b c) rest) (sym (rest_from bs (at + 1)))

pub cut_nowhere : (c : ℕ) (bs : List ℕ) → Nowhere (Passes (is_byte c) bs) 0 (length bs) → slice_split (λ b. eqb b c) bs ≡ bs ∷ []
cut_nowhere c bs none = slice_split_none (λ b. eqb b c) bs (All-from_get_or (λ x. eqb x c ≡ false) bs 0 (λ i lt. false_from_ne_true _ (none i (omega arith) lt)))

pub before_at : (c : ℕ) (bs : List ℕ) (at : ℕ) → NoneBefore (Passes (is_byte c) bs) 0 (length bs) at → Passes (is_byte c) bs at → take at bs ≡ before_first (λ b. eqb b c) bs
before_at c bs at none here = ap (λ n. take n bs) (sym (place_at c bs at none here))

pub before_nowhere : (c : ℕ) (bs : List ℕ) → Nowhere (Passes (is_byte c) bs) 0 (length bs) → bs ≡ before_first (λ b. eqb b c) bs
before_nowhere c bs none = sym (take_all (length bs) bs (omega arith)) ∙ ap (λ n. take n bs) (sym (place_nowhere c bs none))

pub behind_at : (c : ℕ) (bs : List ℕ) (at : ℕ) → NoneBefore (Passes (is_byte c) bs) 0 (length bs) at → Passes (is_byte c) bs at → Some (take (length bs - (at + 1)) (drop (at + 1) bs)) ≡ behind c bs
behind_at c bs at none here = ap (λ rest. Some rest) (rest_from bs (at + 1)) ∙ rw (place_at c bs at none here, lt-ltb at (length bs) none.high) refl

pub behind_nowhere : (c : ℕ) (bs : List ℕ) → Nowhere (Passes (is_byte c) bs) 0 (length bs) → None ≡ behind c bs
behind_nowhere c bs none = rw (place_nowhere c bs none, le-ltb (length bs) (length bs) (omega arith)) refl

cond_cons : {X : Type 0} (b : Bool) (x : X) (xs ys : List X) → cond b (x ∷ xs) (x ∷ ys) ≡ x ∷ cond b xs ys
cond_cons true x xs ys = refl
cond_cons false x xs ys = refl

without_cons : (line : List ℕ) (parts : List (List ℕ)) → 0 < length parts → without_last_empty (line ∷ parts) ≡ line ∷ without_last_empty parts
without_cons line [] some = absurd (omega (arith, some))
without_cons line (x ∷ xs) some =
    let all : length (line ∷ x ∷ xs) - 1 ≡ suc (length xs) = omega arith in
    let rest : length (x ∷ xs) - 1 ≡ length xs = omega arith in
    rw (all, rest) (cond_cons _ line _ _)

pub more_lines : (bytes line rest : List ℕ) → slice_split (λ b. eqb b 10) bytes ≡ line ∷ slice_split (λ b. eqb b 10) rest → lines_of bytes ≡ line ∷ lines_of rest
unfolding lines_of
more_lines bytes line rest parts = ap without_last_empty parts ∙ without_cons line (slice_split (λ b. eqb b 10) rest) (omega (arith, length-slice_split (λ b. eqb b 10) rest))

pub last_line : (bytes line : List ℕ) → 0 < length bytes → line ≡ bytes → slice_split (λ b. eqb b 10) bytes ≡ line ∷ [] → lines_of bytes ≡ line ∷ lines_of []
unfolding lines_of
last_line bytes line some same parts =
    let long : eqb (length line) 0 ≡ false = ne_eqb _ 0 (λ e. omega (arith, e, some, ap length same)) in
    ap without_last_empty parts ∙ rw long refl
