-- Arithmetic of addresses.
use Rattle.std.proofs.Common.{◌≡◌, ℕ, ◌+◌, ◌-◌, ◌*◌, ◌/◌, ◌%◌, ◌^◌, ◌≤◌, ◌<◌, refl, sym, ◌∙◌, ap, inl, inr, arith}
use Rattle.std.specs.Prelude.{ℤ, pos, negsuc, ◌+ℤ◌, ◌-ℤ◌, ◌⊎◌, neg_ℤ, ◌≤ℤ◌, ◌<ℤ◌}
use Rattle.std.proofs.lemmas.Int.{ints}
use Rattle.std.proofs.lemmas.Bool.{cases_lt}
use Rattle.rv_isa.specs.Word.{signed}
use Rattle.image.specs.Targets.{reduced, target, made_by}
use Rattle.emit.specs.Placed.{ahead, high_of, low_of, InReach}

-- what an AUIPC and an ADDI make, in one sum
abbrev made_by_two : ℕ → ℕ → ℤ → ℕ
made_by_two a high low = reduced (pos a +ℤ signed 32 (4096 * high) +ℤ low)

-- multiples of 2 ^ 64 make no difference
shifted : (u w : ℤ) (q : ℕ) → u ≡ w +ℤ pos (2 ^ 64 * q) → reduced u ≡ reduced w
shifted (pos a) (pos b) q e = omega (arith, ints)
shifted (pos a) (negsuc b) q e = omega (arith, ints)
shifted (negsuc a) (pos b) q e = absurd (omega (arith, ints))
shifted (negsuc a) (negsuc b) q e = omega (arith, ints)

reduced_twice : (z y : ℤ) → reduced (pos (reduced z) +ℤ y) ≡ reduced (z +ℤ y)
reduced_twice (pos n) y = sym (shifted (pos n +ℤ y) (pos (n % 2 ^ 64) +ℤ y) (n / 2 ^ 64) (omega (arith, ints)))
reduced_twice (negsuc n) y = shifted (pos (2 ^ 64 - 1 - n % 2 ^ 64) +ℤ y) (negsuc n +ℤ y) (n / 2 ^ 64 + 1) (omega (arith, ints))

pub two_sums : (a high : ℕ) (low : ℤ) → target (made_by a high) low ≡ made_by_two a high low
unfolding target made_by
two_sums a high low = reduced_twice (pos a +ℤ signed 32 (4096 * high)) low

pub target_back : (a t : ℕ) → t < 2 ^ 64 → target a (pos t -ℤ pos a) ≡ t
unfolding target
target_back a t h =
    let e : pos a +ℤ (pos t -ℤ pos a) ≡ pos t = omega (arith, ints) in
    rw e (omega arith)

reduced_is : (z : ℤ) (v : ℕ) → v < 2 ^ 64 → (z ≡ pos v) ⊎ ((z ≡ pos v +ℤ pos (2 ^ 64)) ⊎ (z +ℤ pos (2 ^ 64) ≡ pos v)) → reduced z ≡ v
reduced_is (pos n) v h k = omega (arith, ints)
reduced_is (negsuc n) v h k = omega (arith, ints)

sum_of : (a d v : ℕ) → a < 2 ^ 63 → v < 2 ^ 64 → d ≡ (v + 2 ^ 64 - a) % 2 ^ 64 → (a + d ≡ v) ⊎ (a + d ≡ v + 2 ^ 64)
sum_of a d v p q e = elim (cases_lt v a) [ inl h ↦ inl_low h | inr h ↦ inl (omega arith) ]
  where
    inl_low : v < a → (a + d ≡ v) ⊎ (a + d ≡ v + 2 ^ 64)
    inl_low h = inr (omega arith)

-- the three places of d
low_near : (a d : ℕ) → d + 2048 < 2 ^ 31 → pos a +ℤ signed 32 (4096 * ((d + 2048) / 4096 % 2 ^ 20)) +ℤ signed 12 (d % 2 ^ 12) ≡ pos (a + d)
low_near a d h = omega (arith, ints)

low_behind : (a d : ℕ) → d < 2 ^ 64 → 2 ^ 64 - 2 ^ 31 ≤ d + 2048 → d + 2048 < 2 ^ 64
    → pos a +ℤ signed 32 (4096 * ((d + 2048) / 4096 % 2 ^ 20)) +ℤ signed 12 (d % 2 ^ 12) +ℤ pos (2 ^ 64) ≡ pos (a + d)
low_behind a d l h k = omega (arith, ints)

low_just : (a d : ℕ) → d < 2 ^ 64 → 2 ^ 64 ≤ d + 2048
    → pos a +ℤ signed 32 (4096 * ((d + 2048) / 4096 % 2 ^ 20)) +ℤ signed 12 (d % 2 ^ 12) +ℤ pos (2 ^ 64) ≡ pos (a + d)
low_just a d l h = omega (arith, ints)

pair_makes : (a d : ℕ) → d < 2 ^ 64 → ((d + 2048) % 2 ^ 64 < 2 ^ 31) ⊎ (2 ^ 64 - 2 ^ 31 ≤ (d + 2048) % 2 ^ 64)
    → (pos a +ℤ signed 32 (4096 * ((d + 2048) / 4096 % 2 ^ 20)) +ℤ signed 12 (d % 2 ^ 12) ≡ pos (a + d))
    ⊎ (pos a +ℤ signed 32 (4096 * ((d + 2048) / 4096 % 2 ^ 20)) +ℤ signed 12 (d % 2 ^ 12) +ℤ pos (2 ^ 64) ≡ pos (a + d))
pair_makes a d p k = elim (cases_lt (d + 2048) (2 ^ 64)) [ inl h ↦ small h k | inr h ↦ inr (low_just a d p h) ]
  where
    small : d + 2048 < 2 ^ 64 → ((d + 2048) % 2 ^ 64 < 2 ^ 31) ⊎ (2 ^ 64 - 2 ^ 31 ≤ (d + 2048) % 2 ^ 64)
        → (pos a +ℤ signed 32 (4096 * ((d + 2048) / 4096 % 2 ^ 20)) +ℤ signed 12 (d % 2 ^ 12) ≡ pos (a + d))
        ⊎ (pos a +ℤ signed 32 (4096 * ((d + 2048) / 4096 % 2 ^ 20)) +ℤ signed 12 (d % 2 ^ 12) +ℤ pos (2 ^ 64) ≡ pos (a + d))
    small h (inl q) = inl (low_near a d (omega arith))
    small h (inr q) = inr (low_behind a d p (omega arith) h)

three_ways : (z : ℤ) (s v : ℕ) → v < 2 ^ 64 → (z ≡ pos s) ⊎ (z +ℤ pos (2 ^ 64) ≡ pos s) → (s ≡ v) ⊎ (s ≡ v + 2 ^ 64)
    → (z ≡ pos v) ⊎ ((z ≡ pos v +ℤ pos (2 ^ 64)) ⊎ (z +ℤ pos (2 ^ 64) ≡ pos v))
three_ways z s v h (inl p) (inl q) = inl (omega (arith, ints))
three_ways z s v h (inl p) (inr q) = inr (inl (omega (arith, ints)))
three_ways z s v h (inr p) (inl q) = inr (inr (omega (arith, ints)))
three_ways z s v h (inr p) (inr q) = inl (omega (arith, ints))

-- AUIPC and ADDI make the value again
pub value_back : (a v : ℕ) → a < 2 ^ 63 → v < 2 ^ 64 → InReach a v → target (made_by a (high_of a v)) (low_of a v) ≡ v
value_back a v p q r =
    let d : ahead a v < 2 ^ 64 = omega arith in
    two_sums a (high_of a v) (low_of a v) ∙ reduced_is (pos a +ℤ signed 32 (4096 * high_of a v) +ℤ low_of a v) v q
    (three_ways (pos a +ℤ signed 32 (4096 * high_of a v) +ℤ low_of a v) (a + ahead a v) v q (pair_makes a (ahead a v) d r) (sum_of a (ahead a v) v p q refl))

pub made_small : (x imm : ℕ) → made_by x imm < 2 ^ 64
unfolding made_by
made_small x imm = reduced_small (pos x +ℤ signed 32 (4096 * imm))
  where
    reduced_small : (z : ℤ) → reduced z < 2 ^ 64
    reduced_small (pos n) = omega arith
    reduced_small (negsuc n) = omega arith

-- no other immediates make a value that these don't
reduced_back : (z : ℤ) (v : ℕ) → neg_ℤ (pos (2 ^ 64)) <ℤ z → z <ℤ pos (2 ^ 64) → reduced z ≡ v → (z ≡ pos v) ⊎ (z +ℤ pos (2 ^ 64) ≡ pos v)
reduced_back (pos n) v p q e = inl (omega (arith, ints))
reduced_back (negsuc n) v p q e = inr (omega (arith, ints))

offset_small : (h : ℕ) (l : ℤ) → h < 2 ^ 20 → neg_ℤ (pos 2048) ≤ℤ l → l ≤ℤ pos 2047
    → (neg_ℤ (pos (2 ^ 31 + 2048)) ≤ℤ (signed 32 (4096 * h) +ℤ l)) × ((signed 32 (4096 * h) +ℤ l) ≤ℤ pos (2 ^ 31 - 2049))
offset_small h l p q r = (omega (arith, ints), omega (arith, ints))

in_reach_of : (a v : ℕ) (k : ℤ) → a < 2 ^ 32 → v < 2 ^ 64 → neg_ℤ (pos (2 ^ 31 + 2048)) ≤ℤ k → k ≤ℤ pos (2 ^ 31 - 2049) → (pos a +ℤ k ≡ pos v) ⊎ (pos a +ℤ k +ℤ pos (2 ^ 64) ≡ pos v)
    → InReach a v
in_reach_of a v k p q l h e =
    elim (cases_lt ((ahead a v + 2048) % 2 ^ 64) (2 ^ 31)) [ inl r ↦ inl r | inr r ↦ inr (behind r e) ]
  where
    behind : 2 ^ 31 ≤ (ahead a v + 2048) % 2 ^ 64 → (pos a +ℤ k ≡ pos v) ⊎ (pos a +ℤ k +ℤ pos (2 ^ 64) ≡ pos v) → 2 ^ 64 - 2 ^ 31 ≤ (ahead a v + 2048) % 2 ^ 64
    behind r (inl e) = omega (arith, ints)
    behind r (inr e) = omega (arith, ints)

pub value_only : (a v h : ℕ) (l : ℤ) → a < 2 ^ 32 → v < 2 ^ 64 → h < 2 ^ 20 → neg_ℤ (pos 2048) ≤ℤ l → l ≤ℤ pos 2047 → made_by_two a h l ≡ v → InReach a v
value_only a v h l p q r s t e =
    let o = offset_small h l r s t in
    let z : pos a +ℤ signed 32 (4096 * h) +ℤ l ≡ pos a +ℤ (signed 32 (4096 * h) +ℤ l) = omega (arith, ints) in
    in_reach_of a v (signed 32 (4096 * h) +ℤ l) p q o.0 o.1 (reduced_back (pos a +ℤ (signed 32 (4096 * h) +ℤ l)) v (omega (arith, ints, o.0)) (omega (arith, ints, o.1)) (ap reduced (sym z) ∙ e))

-- what isn't out of reach is in reach
pub out_or_in : (a v : ℕ) → ((InReach a v → ⊥) → ⊥) → InReach a v
out_or_in a v h = elim (cases_lt ((ahead a v + 2048) % 2 ^ 64) (2 ^ 31)) [ inl r ↦ inl r | inr r ↦ behind r (cases_lt ((ahead a v + 2048) % 2 ^ 64) (2 ^ 64 - 2 ^ 31)) ]
  where
    behind : 2 ^ 31 ≤ (ahead a v + 2048) % 2 ^ 64 → ((ahead a v + 2048) % 2 ^ 64 < 2 ^ 64 - 2 ^ 31) ⊎ (2 ^ 64 - 2 ^ 31 ≤ (ahead a v + 2048) % 2 ^ 64) → InReach a v
    behind r (inr k) = inr k
    behind r (inl k) = absurd (h (λ i. elim i [ inl q ↦ (omega (arith, q, r)) | inr q ↦ (omega (arith, q, k)) ]))
