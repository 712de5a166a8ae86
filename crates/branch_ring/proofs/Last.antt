-- The last of a list that goes on.
use Rattle.std.proofs.Common.{◌≡◌, ℕ, ◌+◌, ◌-◌, ◌≤◌, List, ◌++◌, length, drop, sym, ap, ◌∙◌, arith}
use Rattle.std.proofs.lemmas.List.{drop-drop, drop-append-le, length-append, length-drop}
use Rattle.branch_ring.specs.Rings.{last}

kept_ends : (x y n : ℕ) → (x - n) + (((x - (x - n)) + y) - n) ≡ (x + y) - n
kept_ends x y n = omega arith

pub last_goes_on : {X : Type 0} (n : ℕ) (xs ys : List X) → last n (last n xs ++ ys) ≡ last n (xs ++ ys)
last_goes_on n xs ys =
    let k : ℕ = length xs - n in
    let within : k ≤ length xs = omega arith in
    let size : length (drop k xs ++ ys) ≡ (length xs - k) + length ys = length-append (drop k xs) ys ∙ ap (λ (m : ℕ). m + length ys) (length-drop k xs) in
    let seam : drop k xs ++ ys ≡ drop k (xs ++ ys) = sym (drop-append-le k xs ys within) in
    let whole : length (xs ++ ys) ≡ length xs + length ys = length-append xs ys in
    let past : k + (length (drop k xs ++ ys) - n) ≡ length (xs ++ ys) - n = rw (size, whole) (kept_ends (length xs) (length ys) n) in
    ap (λ zs. drop (length (drop k xs ++ ys) - n) zs) seam ∙ drop-drop (length (drop k xs ++ ys) - n) k (xs ++ ys) ∙ ap (λ (m : ℕ). drop m (xs ++ ys)) past
