-- Lists and lines, one on.
use Rattle.std.proofs.Common.{◌≡◌, ℕ, zero, suc, ◌+◌, ◌*◌, ◌<◌, ◌≤◌, List, [], ◌∷◌, ◌++◌, length, drop, get_or, map, ap, sym, append_assoc, refl, arith, ◌∙◌}
use Rattle.std.specs.List.{before_first}
use Rattle.std.proofs.lemmas.List.{at_drop_more, at_drop_all, drop_all, append-nil}
use Rattle.image.specs.declared.ranges.Func.{Func}
use Rattle.image.specs.Picture.{Picture}
use Rattle.blocks.specs.declared.run.Run.{Run}
use Rattle.blocks.specs.Faults.{fault_of}
use Rattle.blocks.specs.Words.{addresses}
use Rattle.blocks.proofs.Reading.{addresses_from}
use Rattle.seen.specs.declared.spot.Spot.{Spot}
use Rattle.seen.specs.declared.moved.Placed.{Placed}
use Rattle.seen.specs.Spots.{spot_of, spots_in, func_spots, spots_from}
use Rattle.seen.specs.Moved.{begins, piece_text, pieces_text}

pub runs_more : (func : ℕ) (runs : List Run) (k : ℕ) (d : Run) (before all : List Spot) → k < length runs → before ++ spots_in func k (drop k runs) ≡ all → (before ++ spot_of func k (get_or runs k d) ∷ []) ++ spots_in func (k + 1) (drop (k + 1) runs) ≡ all
runs_more func runs k d before all within is =
    append_assoc before (spot_of func k (get_or runs k d) ∷ []) (spots_in func (k + 1) (drop (k + 1) runs)) ∙ ap (λ t. before ++ t) (sym (at_drop_more (spots_in func k) runs k d within)) ∙ is

pub runs_done : (func : ℕ) (runs : List Run) (k : ℕ) (before all : List Spot) → length runs ≤ k → before ++ spots_in func k (drop k runs) ≡ all → before ≡ all
runs_done func runs k before all past is = sym (append-nil before) ∙ ap (λ t. before ++ t) (sym (at_drop_all (spots_in func k) runs k past)) ∙ is

pub funcs_more : (p : Picture) (funcs : List Func) (n : ℕ) (before all : List Spot) → n < length funcs → before ++ spots_from p n (drop n funcs) ≡ all → (before ++ func_spots p n (fault_of p n)) ++ spots_from p (n + 1) (drop (n + 1) funcs) ≡ all
funcs_more p funcs n before all within is =
    append_assoc before (func_spots p n (fault_of p n)) (spots_from p (n + 1) (drop (n + 1) funcs)) ∙ ap (λ t. before ++ t) (sym (at_drop_more (spots_from p n) funcs n (record { from = 0; to = 0 }) within)) ∙ is

pub funcs_done : (p : Picture) (funcs : List Func) (n : ℕ) (before all : List Spot) → length funcs ≤ n → before ++ spots_from p n (drop n funcs) ≡ all → before ≡ all
funcs_done p funcs n before all past is = sym (append-nil before) ∙ ap (λ t. before ++ t) (sym (at_drop_all (spots_from p n) funcs n past)) ∙ is

pub words_more : (f : ℕ → Placed) (a n i : ℕ) (before all : List Placed) → i < n → before ++ map f (drop i (addresses a n)) ≡ all → (before ++ f (a + 4 * i) ∷ []) ++ map f (drop (i + 1) (addresses a n)) ≡ all
words_more f a n i before all within is =
    append_assoc before (f (a + 4 * i) ∷ []) (map f (drop (i + 1) (addresses a n))) ∙ ap (λ t. before ++ map f t) (sym (addresses_from a n i within)) ∙ is

as_many : (a n : ℕ) → length (addresses a n) ≡ n
as_many a zero = refl
as_many a (suc n) = let rest = as_many (a + 4) n in omega (arith, rest)

pub words_done : (f : ℕ → Placed) (a n i : ℕ) (before all : List Placed) → n ≤ i → before ++ map f (drop i (addresses a n)) ≡ all → before ≡ all
words_done f a n i before all past is =
    let many = as_many a n in
    let none = drop_all i (addresses a n) (omega (arith, many, past)) in
    sym (append-nil before) ∙ ap (λ t. before ++ map f t) (sym none) ∙ is

pub pieces_more : (names : List (List ℕ)) (number : ℕ) (words : List Placed) (i : ℕ) (d : Placed) (before all : List ℕ) → i < length words → before ++ pieces_text names number (drop i words) ≡ all
    → (before ++ piece_text names number (get_or words i d).begins (get_or words i d).at (before_first begins (drop (i + 1) words))) ++ pieces_text names number (drop (i + 1) words) ≡ all
pieces_more names number words i d before all within is =
    append_assoc before (piece_text names number (get_or words i d).begins (get_or words i d).at (before_first begins (drop (i + 1) words))) (pieces_text names number (drop (i + 1) words))
    ∙ ap (λ t. before ++ t) (sym (at_drop_more (pieces_text names number) words i d within)) ∙ is

pub pieces_done : (names : List (List ℕ)) (number : ℕ) (words : List Placed) (i : ℕ) (before all : List ℕ) → length words ≤ i → before ++ pieces_text names number (drop i words) ≡ all → before ≡ all
pieces_done names number words i before all past is = sym (append-nil before) ∙ ap (λ t. before ++ t) (sym (at_drop_all (pieces_text names number) words i past)) ∙ is
