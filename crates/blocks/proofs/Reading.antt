-- Reading the words of a function.
use Rattle.std.proofs.Common.{◌≡◌, ℕ, zero, suc, ◌+◌, ◌*◌, ◌<◌, ◌≤◌, List, [], ◌∷◌, ◌++◌, drop, map, refl, ◌∙◌, ap, subst, append_assoc, arith, add-one}
use Rattle.std.specs.Prelude.{Option, Some, None, All}
use Rattle.std.specs.List.{filter_map}
use Rattle.finite.specs.First.{first_of}
use Rattle.image.specs.declared.ranges.TextRange.{TextRange}
use Rattle.image.specs.declared.ranges.Func.{Func}
use Rattle.image.specs.Picture.{IsText, IsFunc}
use Rattle.blocks.specs.declared.word.Word.{Word}
use Rattle.blocks.specs.Words.{addresses}

-- a function ends below the end of guest addresses
pub func_low : (texts : List TextRange) (f : Func) → All IsText texts → IsFunc texts f → f.to ≤ 0x08000000
func_low texts f a i =
    let t : TextRange = i.inside.1 in
    let fits : IsText t = subst IsText i.inside.3 (a i.inside.0 t i.inside.2) in
    omega (arith, i.inside.4.1, fits.high)

-- the place i, and those after it
pub addresses_from : (a n i : ℕ) → i < n → drop i (addresses a n) ≡ (a + 4 * i) ∷ drop (i + 1) (addresses a n)
addresses_from a zero i l = absurd (omega (arith, l))
addresses_from a (suc n) zero l = ap (λ (x : ℕ). x ∷ addresses (a + 4) n) (omega arith)
addresses_from a (suc n) (suc i) l =
    let first : a + 4 + 4 * i ≡ a + 4 * suc i = omega arith in
    let later : i + 1 ≡ suc i = omega arith in
    rw (add-one) (addresses_from (a + 4) n i (omega (arith, l)) ∙ ap (λ (x : ℕ). x ∷ drop (i + 1) (addresses (a + 4) n)) first ∙ ap (λ (k : ℕ). (a + 4 * suc i) ∷ drop k (addresses (a + 4) n)) later)

pub addresses_end : (a n : ℕ) → drop n (addresses a n) ≡ []
addresses_end a zero = refl
addresses_end a (suc n) = addresses_end (a + 4) n

pub read_step : (g : ℕ → Option Word) (ws all : List Word) (a n i : ℕ) (w : Word) → i < n → g (a + 4 * i) ≡ Some w
    → ws ++ filter_map g (drop i (addresses a n)) ≡ all → (ws ++ w ∷ []) ++ filter_map g (drop (i + 1) (addresses a n)) ≡ all
read_step g ws all a n i w l e h =
    append_assoc ws (w ∷ []) (filter_map g (drop (i + 1) (addresses a n))) ∙ ap (λ (vs : List Word). ws ++ vs) there ∙ h
  where
    there : w ∷ filter_map g (drop (i + 1) (addresses a n)) ≡ filter_map g (drop i (addresses a n))
    there = rw (addresses_from a n i l, e) refl

pub fault_step : {X : Type 0} (g : ℕ → Option X) (a n i : ℕ) → i < n → g (a + 4 * i) ≡ None
    → first_of (map g (drop (i + 1) (addresses a n))) ≡ first_of (map g (drop i (addresses a n)))
fault_step g a n i l e = rw (addresses_from a n i l, e) refl

pub fault_stop : {X : Type 0} (g : ℕ → Option X) (a n i : ℕ) (x : X) → i < n → g (a + 4 * i) ≡ Some x → first_of (map g (drop i (addresses a n))) ≡ Some x
fault_stop g a n i x l e = rw (addresses_from a n i l, e) refl
