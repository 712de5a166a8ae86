-- What is left of the input.
use Rattle.std.proofs.Common.{◌≡◌, ℕ, ◌-◌, ◌≤◌, List, length, drop, ap, sym, ◌∙◌, arith}
use Rattle.std.proofs.lemmas.List.{length-drop, drop-drop}

-- what is left behind a place is no longer than the whole
pub rest_within : (place : ℕ) (xs : List ℕ) → length (drop place xs) ≤ length xs
rest_within place xs = omega (arith, length-drop place xs)

-- n further on, by what is left then
pub drop_rest : (n place : ℕ) (xs : List ℕ) → n ≤ length (drop place xs) → place ≤ length xs
    → drop (length xs - (length (drop place xs) - n)) xs ≡ drop n (drop place xs)
drop_rest n place xs few inside =
    ap (λ k. drop k xs) (omega (arith, length-drop place xs, few, inside)) ∙ sym (drop-drop n place xs)
