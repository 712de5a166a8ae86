-- Numbers and registers as they are shown are words, and are read back.
use Rattle.std.proofs.Common.{rules, ◌≡◌, ◌∙◌, ◌==◌, ◌&&◌, ◌<◌, ◌+◌, ◌-◌, ◌*◌, ◌^◌, ℕ, zero, suc, ℤ, pos, negsuc, Bool, true, false, eqb, Some, List, [], ◌∷◌, length, min, sym, subst, ap, refl, arith, ⊎_elim}
use Rattle.std.proofs.lemmas.Bool.{ne_eqb, lt-ltb, cases_eq, false≢true}
use Rattle.std.proofs.lemmas.Bool.Decides.{nat_tests}
use Rattle.std.proofs.lemmas.Fmt.{digits_decimal, digits_value-decimal, decimal_nonempty, digits_is_IsNumeral}
use Rattle.std.proofs.lemmas.Str.Parse.{IsNumeralModel, numerals_by_fold}
use Rattle.std.specs.List.{list_all, fold}
use Rattle.std.specs.Fmt.{decimal, signed_decimal, digits}
use Rattle.std.specs.Str.Parse.{AllDigits, digits_value_after}
use Rattle.std.specs.Char.{digit_value}
use Rattle.texts.specs.Texts.{is_digit, all_digits, value_of, is_hex_digit, hex_digit_value}
use Rattle.asm_text.specs.Tokens.{is_name_byte, byte_at}
use Rattle.asm_text.specs.Numbers.{decimal_of, hex_of, number_of}
use Rattle.asm_text.specs.Operands.{register_of}
use Rattle.disasm.specs.Shown.{register_text, hex_text}
use Rattle.disasm_laws.proofs.Lexed.{IsWord, a_name, a_negative, left_of, right_of}

own : IsNumeralModel (λ ds. all_digits ds ≡ true) (λ ds. value_of ds)
own = numerals_by_fold _ (search rules) (λ n ds. fold (λ m c. 10 * m + (c - 48)) n ds) (record { empty = λ n. refl; more = λ n c cs h. let e : 10 * n ≡ n * 10 = omega arith in ap (λ k. fold (λ m x. 10 * m + (x - 48)) (k + (c - 48)) cs) e })

-- ---- digits are name bytes

digit_named : (c : ℕ) → is_digit c ≡ true → is_name_byte c ≡ true
digit_named c d = grind (arith, nat_tests)

digits_named : (ds : List ℕ) → all_digits ds ≡ true → list_all is_name_byte ds ≡ true
digits_named [] all = refl
digits_named (d ∷ ds) all =
    rw (digit_named d (left_of (is_digit d) (all_digits ds) all), digits_named ds (right_of (is_digit d) (all_digits ds) all)) refl

hex_named : (c : ℕ) → digit_value c < 16 → is_name_byte c ≡ true
hex_named c d = grind (arith, nat_tests)

hexes_named : (ds : List ℕ) → AllDigits 16 ds → list_all is_name_byte ds ≡ true
hexes_named [] all = refl
hexes_named (d ∷ ds) all = rw (hex_named d all.0, hexes_named ds all.1) refl

-- ---- they are words

word_from : (ds : List ℕ) → 0 < length ds → list_all is_name_byte ds ≡ true → IsWord ds
word_from [] some all = absurd (omega arith)
word_from (d ∷ ds) some all = a_name d ds all

-- small enough for the digits that are shown
abbrev pub IsSmall : ℤ → Type 0
IsSmall (pos n) = n < 2 ^ 64
IsSmall (negsuc n) = suc n < 2 ^ 64

pub number_word : (z : ℤ) → IsSmall z → IsWord (signed_decimal z)
number_word (pos n) small = word_from (decimal n) (decimal_nonempty n small) (digits_named (decimal n) (digits_decimal own n small))
number_word (negsuc n) small = a_negative (decimal (suc n)) (digits_named (decimal (suc n)) (digits_decimal own (suc n) small))

pub register_word : (n : ℕ) → n < 32 → IsWord (register_text n)
register_word n lt = a_name 120 (decimal n) (digits_named (decimal n) (digits_decimal own n (omega arith)))

hex_digits : (n : ℕ) → n < 2 ^ 64 → (0 < length (digits 16 false n)) × AllDigits 16 (digits 16 false n)
hex_digits n lt = (digits_is_IsNumeral 16 false (omega arith) (omega arith) n (omega arith)).0

pub hex_word : (n : ℕ) → n < 2 ^ 64 → IsWord (hex_text n)
hex_word n lt = a_name 48 (120 ∷ digits 16 false n) (hexes_named (digits 16 false n) (hex_digits n lt).1)

-- ---- they are read back

capped_small : (n : ℕ) → n < 2 ^ 64 → min n (2 ^ 65) ≡ n
capped_small n lt = omega arith

decimal_back : (n : ℕ) → n < 2 ^ 64 → decimal_of (decimal n) ≡ Some n
unfolding decimal_of
decimal_back n lt =
    rw (lt-ltb 0 (length (decimal n)) (decimal_nonempty n lt), digits_decimal own n lt, digits_value-decimal own n lt) (ap (λ m. Some m) (capped_small n lt))

-- no byte that is no digit stands among digits
no_digit : (ds : List ℕ) (i c : ℕ) → all_digits ds ≡ true → is_digit c ≡ false → eqb 0 c ≡ false → eqb (byte_at ds i) c ≡ false
no_digit [] i c all other some = some
no_digit (d ∷ ds) zero c all other some = ne_eqb d c (λ e. false≢true (sym other ∙ (sym (ap is_digit e) ∙ left_of (is_digit d) (all_digits ds) all)))
no_digit (d ∷ ds) (suc i) c all other some = no_digit ds i c (right_of (is_digit d) (all_digits ds) all) other some

and_false : (x : Bool) → (x && false) ≡ false
and_false true = refl
and_false false = refl

pub number_back : (z : ℤ) → IsSmall z → number_of (signed_decimal z) ≡ Some z
unfolding number_of
number_back (pos n) lt =
    let all = digits_decimal own n lt in
    rw (no_digit (decimal n) 0 45 all refl refl, no_digit (decimal n) 1 120 all refl refl, and_false (byte_at (decimal n) 0 == 48), decimal_back n lt) refl
number_back (negsuc n) lt = rw (decimal_back (suc n) lt) refl

hex_digit_is : (c : ℕ) → digit_value c < 16 → is_hex_digit c ≡ true
hex_digit_is c d = grind (arith, nat_tests)

hex_digit_same : (c : ℕ) → digit_value c < 16 → hex_digit_value c ≡ digit_value c
hex_digit_same c d = grind (arith, nat_tests)

hexes_are : (ds : List ℕ) → AllDigits 16 ds → list_all is_hex_digit ds ≡ true
hexes_are [] all = refl
hexes_are (d ∷ ds) all = rw (hex_digit_is d all.0, hexes_are ds all.1) refl

hexes_fold : (ds : List ℕ) (n : ℕ) → AllDigits 16 ds → fold (λ m c. 16 * m + hex_digit_value c) n ds ≡ digits_value_after 16 n ds
hexes_fold [] n all = refl
hexes_fold (d ∷ ds) n all =
    let same = hex_digit_same d all.0 in
    let e : 16 * n + hex_digit_value d ≡ n * 16 + digit_value d = rw same (omega arith) in
    ap (λ k. fold (λ m c. 16 * m + hex_digit_value c) k ds) e ∙ hexes_fold ds (n * 16 + digit_value d) all.1

pub hex_back : (n : ℕ) → n < 2 ^ 64 → number_of (hex_text n) ≡ Some (pos n)
unfolding number_of hex_of
hex_back n lt =
    let ds = hex_digits n lt in
    let value = (digits_is_IsNumeral 16 false (omega arith) (omega arith) n (omega arith)).1 in
    rw (lt-ltb 0 (length (digits 16 false n)) ds.0, hexes_are (digits 16 false n) ds.1, hexes_fold (digits 16 false n) 0 ds.1 ∙ value) (ap (λ m. Some (pos m)) (capped_small n lt))

-- ---- registers

below : (P : ℕ → Type 0) (k n : ℕ) → n < suc k → P k → (n < k → P n) → P n
below P k n lt here more = ⊎_elim (λ e. subst P (sym e) here) (λ apart. more (omega arith)) (cases_eq n k)

abbrev IsBack : ℕ → Type 0
IsBack n = register_of (register_text n) ≡ Some n

pub register_back : (n : ℕ) → n < 32 → register_of (register_text n) ≡ Some n
unfolding register_of digits
register_back n lt =
    below IsBack 31 n lt refl (λ l31.
    below IsBack 30 n l31 refl (λ l30.
    below IsBack 29 n l30 refl (λ l29.
    below IsBack 28 n l29 refl (λ l28.
    below IsBack 27 n l28 refl (λ l27.
    below IsBack 26 n l27 refl (λ l26.
    below IsBack 25 n l26 refl (λ l25.
    below IsBack 24 n l25 refl (λ l24.
    below IsBack 23 n l24 refl (λ l23.
    below IsBack 22 n l23 refl (λ l22.
    below IsBack 21 n l22 refl (λ l21.
    below IsBack 20 n l21 refl (λ l20.
    below IsBack 19 n l20 refl (λ l19.
    below IsBack 18 n l19 refl (λ l18.
    below IsBack 17 n l18 refl (λ l17.
    below IsBack 16 n l17 refl (λ l16.
    below IsBack 15 n l16 refl (λ l15.
    below IsBack 14 n l15 refl (λ l14.
    below IsBack 13 n l14 refl (λ l13.
    below IsBack 12 n l13 refl (λ l12.
    below IsBack 11 n l12 refl (λ l11.
    below IsBack 10 n l11 refl (λ l10.
    below IsBack 9 n l10 refl (λ l9.
    below IsBack 8 n l9 refl (λ l8.
    below IsBack 7 n l8 refl (λ l7.
    below IsBack 6 n l7 refl (λ l6.
    below IsBack 5 n l6 refl (λ l5.
    below IsBack 4 n l5 refl (λ l4.
    below IsBack 3 n l4 refl (λ l3.
    below IsBack 2 n l3 refl (λ l2.
    below IsBack 1 n l2 refl (λ l1.
    below IsBack 0 n l1 refl (λ l0. absurd (omega arith)))))))))))))))))))))))))))))))))
