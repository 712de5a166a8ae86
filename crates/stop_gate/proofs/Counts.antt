-- How many harts are away, as they leave and come back.
use Rattle.std.proofs.Common.{◌≡◌, ℕ, zero, suc, ◌+◌, ◌<◌, ◌≤◌, Bool, true, false, List, [], ◌∷◌, length, slice_index_or, slice_set, refl, arith}
use Rattle.stop_gate.specs.Gates.{Gated, is_away, left, back_in, set_in, aways, AwayBelow}

one_more : (bs : List Bool) (h : ℕ) → h < length bs → slice_index_or bs h false ≡ false → set_in (slice_set bs h true) ≡ set_in bs + 1
one_more [] h p e = absurd (omega (arith, p))
one_more (true ∷ bs) zero p e = cc
one_more (false ∷ bs) zero p e = omega arith
one_more (b ∷ bs) (suc h) p e = let r = one_more bs h (omega (arith, p)) e in omega (arith, r)

one_less : (bs : List Bool) (h : ℕ) → slice_index_or bs h false ≡ true → set_in (slice_set bs h false) + 1 ≡ set_in bs
one_less [] h e = cc
one_less (true ∷ bs) zero e = omega arith
one_less (false ∷ bs) zero e = cc
one_less (b ∷ bs) (suc h) e = let r = one_less bs h e in omega (arith, r)

most : (bs : List Bool) (n : ℕ) → ((h : ℕ) → slice_index_or bs h false ≡ true → h < n) → set_in bs ≤ n
most [] n p = omega arith
most (true ∷ bs) zero p = let q = p 0 refl in absurd (omega (arith, q))
most (true ∷ bs) (suc n) p = let r = most bs n (λ h e. (let q = p (suc h) e in omega (arith, q))) in omega (arith, r)
most (false ∷ bs) n p = let r = most bs n (λ h e. (let q = p (suc h) e in omega (arith, q))) in omega (arith, r)

none_set : (bs : List Bool) → ((h : ℕ) → slice_index_or bs h false ≡ false) → set_in bs ≡ 0
none_set [] p = refl
none_set (true ∷ bs) p = let q = p 0 in cc
none_set (false ∷ bs) p = let r = none_set bs (λ h. p (suc h)) in omega (arith, r)

-- a hart that leaves is one more
pub leaving_adds : (g : Gated) (h : ℕ) → h < length g.away → is_away g h ≡ false → aways (left h g) ≡ aways g + 1
leaving_adds g h p e = one_more g.away h p e

-- one that comes back is one less
pub coming_back_takes : (g : Gated) (h : ℕ) → is_away g h ≡ true → aways (back_in h g) + 1 ≡ aways g
coming_back_takes g h e = one_less g.away h e

-- where each that is away is below n, they are at most n
pub aways_at_most : (n : ℕ) (g : Gated) → AwayBelow n g → aways g ≤ n
aways_at_most n g p = most g.away n p

pub no_aways : (g : Gated) → ((h : ℕ) → is_away g h ≡ false) → aways g ≡ 0
no_aways g p = none_set g.away p
