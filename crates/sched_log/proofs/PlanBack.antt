-- The line of a plan is read again.
use Rattle.std.proofs.Common.{rules, ◌≡◌, ℕ, ◌^◌, ◌<◌, true, false, List, [], ◌∷◌, ◌++◌, length, map, take, Some, None, refl, ap, arith, eqb, ◌∙◌}
use Rattle.std.specs.Prelude.{decimal, flat_map}
use Rattle.std.specs.Int.{IsInRange}
use Rattle.std.specs.List.{slice_split, position_or_len, before_first, list_any, list_all, All, AllByRecursion}
use Rattle.std.proofs.lemmas.Bool.{ne_eqb, eq-eqb, lt-ltb}
use Rattle.std.proofs.lemmas.List.{append-nil, length-append, get_or_append_left}
use Rattle.std.proofs.lemmas.List.Splits.{slice_split_at, slice_split_none}
use Rattle.std.proofs.lemmas.List.Sums.{position_or_len_is}
use Rattle.std.proofs.lemmas.List.Folds.{list_any_none}
use Rattle.std.proofs.lemmas.List.Elements.{All-append, All-cons, All-nil, All-from_get_or}
use Rattle.std.proofs.lemmas.Fmt.{decimal_nonempty, digits_decimal}
use Rattle.std.proofs.lemmas.Str.Parse.{IsNumeralModel, numerals_by_value, not_in_digits}
use Rattle.std.proofs.Math.Seq.{take-append_seam, drop-append-add, get_or-append_seam}
use Rattle.std.specs.Str.Parse.{digits_value}
use Rattle.texts.specs.Texts.{all_digits, number_of}
use Rattle.texts.proofs.Numbers.{decimal_read}
use Rattle.image.specs.Picture.{Picture}
use Rattle.plans.specs.declared.plan.Moved.{Moved}
use Rattle.plans.specs.Given.{plan_fault}
use Rattle.sched_log.specs.Parts.{behind}
use Rattle.sched_log.specs.Plans.{words, any_empty, is_part, pieces, is_plan, all_of, moved_of, parts_of}
use Rattle.sched_log.specs.Lines.{plan_line}
use Rattle.sched_log.specs.Printed.{row, part_text, plan_text}
use Rattle.sched_log.specs.declared.line.Line.TheVariants.{Does}
use Rattle.sched_log.specs.declared.event.Event.TheVariants.{Given}

-- a byte stands nowhere in a text
abbrev pub Without : ℕ → List ℕ → Type 0
Without c text = All (λ b. eqb b c ≡ false) text

abbrev pub AreShort : List ℕ → Type 0
AreShort ns = AllByRecursion (λ n. n < 2 ^ 32) ns

own : IsNumeralModel (λ ds. all_digits ds ≡ true) (digits_value 10)
own = numerals_by_value _ (search rules)

-- no byte that is no digit stands in a number
not_in_number : (c n : ℕ) → ¬ (IsInRange 48 57 c) → n < 2 ^ 32 → Without c (decimal n)
not_in_number c n out small = All-from_get_or (λ b. eqb b c ≡ false) (decimal n) 0 (λ i lt. ne_eqb _ _ (not_in_digits own (decimal n) c (digits_decimal own n (omega (arith, small))) out i lt))

not_in_numbers : (c : ℕ) (ns : List ℕ) → ¬ (IsInRange 48 57 c) → AreShort ns → AllByRecursion (λ n. Without c (decimal n)) ns
not_in_numbers c [] out short = tt
not_in_numbers c (n ∷ ns) out short = (not_in_number c n out short.0, not_in_numbers c ns out short.1)

-- texts with a byte between each two are cut at that byte
row_from : {X : Type 0} (c : ℕ) (text : X → List ℕ) (first : List ℕ) (xs : List X) → Without c first → AllByRecursion (λ x. Without c (text x)) xs → slice_split (λ b. eqb b c) (first ++ flat_map (λ x. c ∷ text x) xs) ≡ first ∷ map text xs
row_from c text first [] none each = ap (slice_split (λ b. eqb b c)) (append-nil first) ∙ slice_split_none (λ b. eqb b c) first none
row_from c text first (x ∷ xs) none each =
    slice_split_at (λ b. eqb b c) first c (text x ++ flat_map (λ y. c ∷ text y) xs) none (eq-eqb c c refl) ∙ ap (λ more. first ∷ more) (row_from c text (text x) xs each.0 each.1)

row_cut : {X : Type 0} (c : ℕ) (text : X → List ℕ) (x : X) (xs : List X) → AllByRecursion (λ y. Without c (text y)) (x ∷ xs) → slice_split (λ b. eqb b c) (row c text (x ∷ xs)) ≡ map text (x ∷ xs)
row_cut c text x xs each = row_from c text (text x) xs each.0 each.1

-- and have no byte that neither they nor what stands between them has
more_without : {X : Type 0} (c mark : ℕ) (text : X → List ℕ) (xs : List X) → eqb mark c ≡ false → AllByRecursion (λ x. Without c (text x)) xs → Without c (flat_map (λ x. mark ∷ text x) xs)
more_without c mark text [] other each = All-nil (λ b. eqb b c ≡ false)
more_without c mark text (x ∷ xs) other each =
    All-append (λ b. eqb b c ≡ false) (mark ∷ text x) (flat_map (λ y. mark ∷ text y) xs) (All-cons (λ b. eqb b c ≡ false) mark (text x) other each.0) (more_without c mark text xs other each.1)

row_without : {X : Type 0} (c mark : ℕ) (text : X → List ℕ) (xs : List X) → eqb mark c ≡ false → AllByRecursion (λ x. Without c (text x)) xs → Without c (row mark text xs)
row_without c mark text [] other each = All-nil (λ b. eqb b c ≡ false)
row_without c mark text (x ∷ xs) other each = All-append (λ b. eqb b c ≡ false) (text x) (flat_map (λ y. mark ∷ text y) xs) each.0 (more_without c mark text xs other each.1)

-- numbers are read again
numbers_back : (ns : List ℕ) → AreShort ns → all_of number_of (map decimal ns) ≡ Some ns
numbers_back [] short = refl
numbers_back (n ∷ ns) short = rw (decimal_read n short.0, numbers_back ns short.1) refl

none_empty : (ns : List ℕ) → AreShort ns → any_empty (map decimal ns) ≡ false
none_empty [] short = refl
none_empty (n ∷ ns) short =
    let some : eqb (length (decimal n)) 0 ≡ false = ne_eqb (length (decimal n)) 0 (λ e. omega (arith, e, decimal_nonempty n (omega (arith, short.0)))) in
    rw (some, none_empty ns short.1) refl

-- the first place of a byte behind a text that hasn't it
place_behind : (c : ℕ) (xs ys : List ℕ) → Without c xs → position_or_len (λ b. eqb b c) (xs ++ c ∷ ys) ≡ length xs
place_behind c xs ys none = position_or_len_is (λ b. eqb b c) (xs ++ c ∷ ys) (length xs) 0 (omega (arith, length-append xs (c ∷ ys)))
    (λ k lt. ap (λ b. eqb b c) (get_or_append_left xs (c ∷ ys) 0 k lt) ∙ none k 0 lt)
    (λ lt. eq-eqb _ c (get_or-append_seam xs c ys 0))

before_back : (c : ℕ) (xs ys : List ℕ) → Without c xs → before_first (λ b. eqb b c) (xs ++ c ∷ ys) ≡ xs
before_back c xs ys none = ap (λ n. take n (xs ++ c ∷ ys)) (place_behind c xs ys none) ∙ take-append_seam xs (c ∷ ys)

behind_back : (c : ℕ) (xs ys : List ℕ) → Without c xs → behind c (xs ++ c ∷ ys) ≡ Some ys
behind_back c xs ys none =
    rw (place_behind c xs ys none, lt-ltb (length xs) (length (xs ++ c ∷ ys)) (omega (arith, length-append xs (c ∷ ys)))) (ap (λ rest. Some rest) (drop-append-add xs (c ∷ ys) 1))

-- a part of which all numbers are short, and which has blocks
pub record IsWritten (m : Moved) : Type 0 where
  pub func : m.func < 2 ^ 32
  pub some : 0 < length m.order
  pub short : AreShort m.order

order_words : (ns : List ℕ) → 0 < length ns → AreShort ns → words (row 32 decimal ns) ≡ map decimal ns
order_words [] some short = absurd (omega (arith, some))
order_words (n ∷ ns) some short = row_cut 32 decimal n ns (not_in_numbers 32 (n ∷ ns) (λ r. omega (arith, r)) short)

func_words : (n : ℕ) → n < 2 ^ 32 → words (decimal n) ≡ decimal n ∷ []
func_words n small = slice_split_none (λ b. eqb b 32) (decimal n) (not_in_number 32 n (λ r. omega (arith, r)) small)

part_is : (m : Moved) → IsWritten m → is_part (32 ∷ part_text m) ≡ true
part_is m w =
    let no_colon : Without 58 (decimal m.func) = not_in_number 58 m.func (λ r. omega (arith, r)) w.func in
    let func : any_empty (words (decimal m.func)) ≡ false = ap any_empty (func_words m.func w.func) ∙ none_empty (m.func ∷ []) (w.func, tt) in
    let order : any_empty (words (row 32 decimal m.order)) ≡ false = ap any_empty (order_words m.order w.some w.short) ∙ none_empty m.order w.short in
    rw (before_back 58 (decimal m.func) (row 32 decimal m.order) no_colon, behind_back 58 (decimal m.func) (row 32 decimal m.order) no_colon, func, order) refl

part_back : (m : Moved) → IsWritten m → moved_of (32 ∷ part_text m) ≡ Some m
part_back m w =
    let no_colon : Without 58 (decimal m.func) = not_in_number 58 m.func (λ r. omega (arith, r)) w.func in
    let order : all_of number_of (words (row 32 decimal m.order)) ≡ Some m.order = ap (all_of number_of) (order_words m.order w.some w.short) ∙ numbers_back m.order w.short in
    rw (before_back 58 (decimal m.func) (row 32 decimal m.order) no_colon, behind_back 58 (decimal m.func) (row 32 decimal m.order) no_colon, decimal_read m.func w.func, order) refl

abbrev piece : Moved → List ℕ
piece m = 32 ∷ part_text m

parts_are : (ms : List Moved) → AllByRecursion IsWritten ms → list_all is_part (map piece ms) ≡ true
parts_are [] each = refl
parts_are (m ∷ ms) each = rw (part_is m each.0, parts_are ms each.1) refl

parts_back : (ms : List Moved) → AllByRecursion IsWritten ms → all_of moved_of (map piece ms) ≡ Some ms
parts_back [] each = refl
parts_back (m ∷ ms) each = rw (part_back m each.0, parts_back ms each.1) refl

-- bytes that stand in no part
piece_without : (c : ℕ) (m : Moved) → ¬ (IsInRange 48 57 c) → eqb 32 c ≡ false → eqb 58 c ≡ false → IsWritten m → Without c (piece m)
piece_without c m out space colon w =
    All-cons (λ b. eqb b c ≡ false) 32 (part_text m) space
    (All-append (λ b. eqb b c ≡ false) (decimal m.func) (58 ∷ row 32 decimal m.order) (not_in_number c m.func out w.func)
    (All-cons (λ b. eqb b c ≡ false) 58 (row 32 decimal m.order) colon (row_without c 32 decimal m.order space (not_in_numbers c m.order out w.short))))

pieces_without : (c : ℕ) (ms : List Moved) → ¬ (IsInRange 48 57 c) → eqb 32 c ≡ false → eqb 58 c ≡ false → AllByRecursion IsWritten ms → AllByRecursion (λ m. Without c (piece m)) ms
pieces_without c [] out space colon each = tt
pieces_without c (m ∷ ms) out space colon each = (piece_without c m out space colon each.0, pieces_without c ms out space colon each.1)

pub plan_without : (c : ℕ) (ms : List Moved) → ¬ (IsInRange 48 57 c) → eqb 32 c ≡ false → eqb 58 c ≡ false → eqb 59 c ≡ false → AllByRecursion IsWritten ms → Without c (plan_text ms)
plan_without c ms out space colon semicolon each = row_without c 59 piece ms semicolon (pieces_without c ms out space colon each)

plan_pieces : (ms : List Moved) → 0 < length ms → AllByRecursion IsWritten ms → pieces (plan_text ms) ≡ map piece ms
plan_pieces [] some each = absurd (omega (arith, some))
plan_pieces (m ∷ ms) some each = row_cut 59 piece m ms (pieces_without 59 (m ∷ ms) (λ r. omega (arith, r)) refl refl each)

pub plan_back : (p : Picture) (ms : List Moved) → 0 < length ms → AllByRecursion IsWritten ms → plan_fault p ms ≡ None → plan_line p (plan_text ms) ≡ Does (Given ms)
unfolding plan_line is_plan parts_of
plan_back p ms some each fine =
    let slash : list_any (λ b. eqb b 47) (plan_text ms) ≡ false = list_any_none (λ b. eqb b 47) (plan_text ms) (plan_without 47 ms (λ r. omega (arith, r)) refl refl refl each) in
    rw (slash, plan_pieces ms some each, parts_are ms each, parts_back ms each, fine) refl
