-- Bits in rows of numbers.
use Rattle.std.proofs.Common.{◌≡◌, ◌≢◌, ℕ, zero, suc, ◌+◌, ◌-◌, ◌*◌, ◌/◌, ◌%◌, ◌^◌, ◌<◌, ◌≤◌, Bool, true, false, cond, ◌&&◌, nat_eq, List, length, get_or, set, replicate, bit_and, pow-suc, refl, sym, ap, ◌∙◌, inl, inr, arith, get_or-set_same, get_or-set_other}
use Rattle.std.specs.Int.{bit_at}
use Rattle.std.proofs.lemmas.List.{get_or-replicate, length-replicate, get_or_past}
use Rattle.std.proofs.lemmas.Nat.{and_mask, shr-shr, one_shl, pow_pos, mod-pow-add}
use Rattle.std.proofs.lemmas.Nat.Bits.{bit_at_ones, bit_at-zero, bit_at-lt}
use Rattle.std.proofs.lemmas.Bool.{cases_lt, cases_eq, eq-eqb, ne_eqb}
use Rattle.guest_mem.specs.Bits.{bit_in, all_bits_in}

pub changed_bit : (xs : List ℕ) (i j y : ℕ) (on : Bool) → i / 64 < length xs → nat_eq (bit_at y (i % 64)) 1 ≡ on → ((k : ℕ) → k < 64 → k ≢ i % 64 → bit_at y k ≡ bit_at (get_or xs (i / 64) 0) k) → bit_in (set xs (i / 64) y) j ≡ cond (nat_eq j i) on (bit_in xs j)
unfolding bit_in
changed_bit xs i j y on h here others =
    elim (cases_eq (j / 64) (i / 64)) [
      | inl row ↦ elim (cases_eq (j % 64) (i % 64)) [
        | inl place ↦
            let e : nat_eq j i ≡ true = eq-eqb j i (omega arith) in
            rw (e, row, place) (rw get_or-set_same here)
        | inr other ↦
            let e : nat_eq j i ≡ false = ne_eqb j i (λ (s : j ≡ i). other (omega arith)) in
            rw (e, row) (rw get_or-set_same (ap (λ b. nat_eq b 1) (others (j % 64) (omega arith) other)))
      ]
      | inr other ↦
          let e : nat_eq j i ≡ false = ne_eqb j i (λ (s : j ≡ i). other (omega arith)) in
          rw (e, get_or-set_other) refl
    ]

pub zeros_at : (n j : ℕ) → get_or {A = ℕ} (replicate n 0) j 0 ≡ 0
zeros_at n j = elim (cases_lt j n) [
  | inl below ↦ get_or-replicate n j 0 0 below
  | inr above ↦ get_or_past (replicate n 0) j 0 (omega (arith, length-replicate {A = ℕ} n 0))
]

pub no_bit_at : (n j : ℕ) → bit_in (replicate n 0) j ≡ false
unfolding bit_in
no_bit_at n j = rw (zeros_at n (j / 64), bit_at-zero (j % 64)) refl

pub ones_at : (n j : ℕ) → j < 64 * n → bit_in (replicate n (2 ^ 64 - 1)) j ≡ true
unfolding bit_in
ones_at n j h = rw (get_or-replicate n (j / 64) (2 ^ 64 - 1) 0 (omega arith), bit_at_ones 64 (j % 64) (omega arith)) refl

-- ---- some bits at once
-- the n lowest bits are all set
abbrev all_low : ℕ → ℕ → Bool
all_low y zero = true
all_low y (suc n) = all_low y n && nat_eq (bit_at y n) 1

low_split : (y n : ℕ) → y % 2 ^ suc n ≡ y % 2 ^ n + bit_at y n * 2 ^ n
low_split y n = ap (λ (k : ℕ). y % 2 ^ k) (omega arith) ∙ mod-pow-add y 1 n ∙ omega arith

top : (r p b : ℕ) → r < p → b < 2 → nat_eq (r + b * p) (2 * p - 1) ≡ (nat_eq r (p - 1) && nat_eq b 1)
top r p zero h l = ne_eqb (r + 0 * p) (2 * p - 1) (λ (e : r + 0 * p ≡ 2 * p - 1). absurd (omega arith)) ∙ sym (false_right (nat_eq r (p - 1)))
  where
    false_right : (b : Bool) → (b && nat_eq 0 1) ≡ false
    false_right true = refl
    false_right false = refl
top r p (suc zero) h l = elim (cases_eq r (p - 1)) [
  | inl same ↦ rw (eq-eqb r (p - 1) same) (eq-eqb (r + 1 * p) (2 * p - 1) (omega arith))
  | inr other ↦ rw (ne_eqb r (p - 1) other) (ne_eqb (r + 1 * p) (2 * p - 1) (λ (e : r + 1 * p ≡ 2 * p - 1). other (omega arith)))
]
top r p (suc (suc b)) h l = absurd (omega arith)

low_ones : (y n : ℕ) → nat_eq (y % 2 ^ n) (2 ^ n - 1) ≡ all_low y n
low_ones y zero = eq-eqb (y % 2 ^ 0) (2 ^ 0 - 1) (omega arith)
low_ones y (suc n) =
    let e : 2 ^ suc n - 1 ≡ 2 * 2 ^ n - 1 = omega (arith, pow-suc 2 n) in
    rw (low_split y n, e)
    (top (y % 2 ^ n) (2 ^ n) (bit_at y n) (omega (arith, pow_pos n)) (bit_at-lt y n) ∙ ap (λ b. b && nat_eq (bit_at y n) 1) (low_ones y n))

low_bits : (xs : List ℕ) (i n : ℕ) → i % 8 + n ≤ 8 → all_low (get_or xs (i / 64) 0 / 2 ^ (i % 64)) n ≡ all_bits_in xs i n
unfolding all_bits_in bit_in
low_bits xs i zero h = refl
low_bits xs i (suc n) h =
    let row : i / 64 ≡ (i + n) / 64 = omega arith in
    let place : i % 64 + n ≡ (i + n) % 64 = omega arith in
    let x = get_or xs (i / 64) 0 in
    let b : bit_at (x / 2 ^ (i % 64)) n ≡ bit_at (get_or xs ((i + n) / 64) 0) ((i + n) % 64) =
    ap (λ y. y % 2) (shr-shr x (i % 64) n) ∙ ap (bit_at x) place ∙ ap (λ r. bit_at (get_or xs r 0) ((i + n) % 64)) row in
    (λ k. low_bits xs i n (omega arith) k && nat_eq (b k) 1)

pub masked : (xs : List ℕ) (i n : ℕ) → i % 8 + n ≤ 8 → nat_eq (bit_and (get_or xs (i / 64) 0 / 2 ^ (i % 64)) (1 * 2 ^ n % 2 ^ 64 - 1)) (1 * 2 ^ n % 2 ^ 64 - 1) ≡ all_bits_in xs i n
masked xs i n h =
    let y = get_or xs (i / 64) 0 / 2 ^ (i % 64) in
    let m : 1 * 2 ^ n % 2 ^ 64 ≡ 2 ^ n = one_shl n 64 (omega arith) in
    ap (λ p. nat_eq (bit_and y (p - 1)) (p - 1)) m
    ∙ ap (λ r. nat_eq r (2 ^ n - 1)) (and_mask y n)
    ∙ low_ones y n
    ∙ low_bits xs i n h
