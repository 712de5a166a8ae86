-- What `decimal` writes is read.
use Rattle.std.proofs.Common.{rules, ◌≡◌, ℕ, ◌+◌, ◌-◌, ◌*◌, ◌^◌, ◌<◌, ◌≤◌, true, false, List, length, Some, refl, ap, arith, eqb}
use Rattle.std.specs.Prelude.{decimal}
use Rattle.std.specs.List.{fold, All}
use Rattle.std.proofs.lemmas.Bool.{ne_eqb, le-leb, lt-ltb}
use Rattle.std.proofs.lemmas.List.Elements.{All-from_get_or}
use Rattle.std.proofs.lemmas.Fmt.{digits_decimal, digits_value-decimal, length-decimal-le, decimal_nonempty}
use Rattle.std.proofs.lemmas.Str.Parse.{IsNumeralModel, numerals_by_fold, not_in_digits}
use Rattle.texts.specs.Texts.{all_digits, value_of, number_of}

read_on : ℕ → List ℕ → ℕ
read_on n ds = fold (λ m c. 10 * m + (c - 48)) n ds

own : IsNumeralModel (λ ds. all_digits ds ≡ true) (λ ds. value_of ds)
own = numerals_by_fold _ (search rules) (λ n ds. fold (λ m c. 10 * m + (c - 48)) n ds) (record { empty = λ n. refl; more = λ n c cs h. let e : 10 * n ≡ n * 10 = omega arith in ap (λ k. fold (λ m x. 10 * m + (x - 48)) (k + (c - 48)) cs) e })

number_read : (ds : List ℕ) (n : ℕ) → 0 < length ds → length ds ≤ 10 → all_digits ds ≡ true → value_of ds ≡ n → n < 2 ^ 32 → number_of ds ≡ Some n
unfolding number_of
number_read ds n some short digits value small =
    rw (lt-ltb 0 (length ds) some, le-leb (length ds) 10 short, digits, value, lt-ltb n (2 ^ 32) small) refl

pub decimal_read : (n : ℕ) → n < 2 ^ 32 → number_of (decimal n) ≡ Some n
decimal_read n small = number_read (decimal n) n (decimal_nonempty n (omega arith)) (length-decimal-le 10 n (omega arith) (omega arith) (omega arith)) (digits_decimal own n (omega arith)) (digits_value-decimal own n (omega arith)) small

-- no byte that is no digit stands in a number
pub not_in_decimal : (c n : ℕ) → c < 48 → n < 2 ^ 64 → All (λ b. eqb b c ≡ false) (decimal n)
not_in_decimal c n low small = All-from_get_or (λ x. eqb x c ≡ false) (decimal n) 0 (λ i lt. ne_eqb _ _ (not_in_digits own (decimal n) c (digits_decimal own n small) (λ r. omega (arith, r)) i lt))
