-- The least number with a property is the first of its kind in a range.
use Rattle.std.proofs.Common.{◌≡◌, ℕ, zero, suc, ◌+◌, ◌<◌, ◌≤◌, Bool, true, false, cond, Option, Some, None, inl, inr, refl, ap, arith}
use Rattle.std.specs.List.{find, range_with_len}
use Rattle.std.proofs.lemmas.Bool.{cases_lt}
use Rattle.finite.specs.Least.{IsLeastOf}

-- the same for a property that holds of the same numbers
pub least_same : (P Q : ℕ → Type 0) (o : Option ℕ) → ((a : ℕ) → P a → Q a) → ((a : ℕ) → Q a → P a) → IsLeastOf P o → IsLeastOf Q o
least_same P Q None f g h = λ b q. h b (g b q)
least_same P Q (Some a) f g h = (f a h.0, λ b q. h.1 b (g b q))

-- a number of the range that passes
abbrev pub Passes : (ℕ → Bool) → ℕ → ℕ → ℕ → Type 0
Passes p lo n a = (lo ≤ a) × (a < lo + n) × (p a ≡ true)

later : (p : ℕ → Bool) (lo n a : ℕ) → p lo ≡ false → Passes p lo (suc n) a → Passes p (lo + 1) n a
later p lo n a fails h =
    elim (cases_lt lo a) [
      | inl lt ↦ (omega (arith, lt), omega (arith, h.1), h.2)
      | inr ge ↦ absurd (let e : a ≡ lo = omega (arith, h.0, ge) in let t = h.2 in let f = ap p e in cc)
    ]

earlier : (p : ℕ → Bool) (lo n a : ℕ) → Passes p (lo + 1) n a → Passes p lo (suc n) a
earlier p lo n a h = (omega (arith, h.0), omega (arith, h.1), h.2)

first_case : (b : Bool) (p : ℕ → Bool) (lo n : ℕ) (o rest : Option ℕ) → p lo ≡ b → IsLeastOf (Passes p lo (suc n)) o → (IsLeastOf (Passes p (lo + 1) n) o → o ≡ rest) → o ≡ cond b (Some lo) rest
first_case true p lo n None rest is h k = absurd (h lo (omega arith, omega arith, is))
first_case true p lo n (Some a) rest is h k =
    let le : a ≤ lo = h.1 lo (omega arith, omega arith, is) in
    ap (λ (m : ℕ). Some m) (omega (arith, le, h.0.0))
first_case false p lo n o rest is h k = k (least_same (Passes p lo (suc n)) (Passes p (lo + 1) n) o (λ a. later p lo n a is) (λ a. earlier p lo n a) h)

pub least_found : (p : ℕ → Bool) (lo n : ℕ) (o : Option ℕ) → IsLeastOf (Passes p lo n) o → o ≡ find p (range_with_len lo n)
least_found p lo zero None h = refl
least_found p lo zero (Some a) h = absurd (omega (arith, h.0.0, h.0.1))
least_found p lo (suc n) o h = first_case (p lo) p lo n o (find p (range_with_len (lo + 1) n)) refl h (λ k. least_found p (lo + 1) n o k)

-- the first number below n that passes
pub first_below : (p : ℕ → Bool) (n i : ℕ) → i < n → ((k : ℕ) → k < i → p k ≡ false) → p i ≡ true → Some i ≡ find p (range_with_len 0 n)
first_below p n i lt before is =
    least_found p 0 n (Some i) (
      (omega arith, omega (arith, lt), is),
      λ b h. (
          elim (cases_lt b i) [
            | inl below ↦ absurd (let f = before b below in let t = h.2 in cc)
            | inr past ↦ past
          ]),
    )

-- none below n passes
pub none_below : (p : ℕ → Bool) (n : ℕ) → ((k : ℕ) → k < n → p k ≡ false) → None ≡ find p (range_with_len 0 n)
none_below p n fails = least_found p 0 n None (λ b h. (let f = fails b (omega (arith, h.1)) in let t = h.2 in cc))
