-- Slices of rows that `==` finds equal.
use Rattle.std.proofs.Common.{◌≡◌, ℕ, Bool, true, List, [], ◌∷◌, refl}
use Rattle.std.specs.Prelude.{◌==◌, ◌&&◌}
use Rattle.std.specs.Cmp.{unsigned_Decides, first_so, second_so}
use Rattle.std.specs.Cmp.Lexicographic.{pointwise}

abbrev pub row_eq : ℕ × ℕ × ℕ → ℕ × ℕ × ℕ → Bool
row_eq x y = (x.0 == y.0 && x.1 == y.1) && x.2 == y.2

same_row : (x y : ℕ × ℕ × ℕ) → row_eq x y ≡ true → x ≡ y
same_row x y e =
    let both : (x.0 == y.0 && x.1 == y.1) ≡ true = first_so (x.0 == y.0 && x.1 == y.1) (x.2 == y.2) e in
    let from : x.0 ≡ y.0 = (unsigned_Decides x.0 y.0).0 (first_so (x.0 == y.0) (x.1 == y.1) both) in
    let to : x.1 ≡ y.1 = (unsigned_Decides x.1 y.1).0 (second_so (x.0 == y.0) (x.1 == y.1) both) in
    let count : x.2 ≡ y.2 = (unsigned_Decides x.2 y.2).0 (second_so (x.0 == y.0 && x.1 == y.1) (x.2 == y.2) e) in
    λ i. (from i, to i, count i)

pub same_rows : (xs ys : List (ℕ × ℕ × ℕ)) → pointwise row_eq xs ys ≡ true → xs ≡ ys
same_rows [] [] e = refl
same_rows [] (y ∷ ys) e = absurd (cc)
same_rows (x ∷ xs) [] e = absurd (cc)
same_rows (x ∷ xs) (y ∷ ys) e = λ i. same_row x y (first_so (row_eq x y) (pointwise row_eq xs ys) e) i ∷ same_rows xs ys (second_so (row_eq x y) (pointwise row_eq xs ys) e) i
