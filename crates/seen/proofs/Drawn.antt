-- Lists of what is drawn, one on.
use Rattle.std.proofs.Common.{◌≡◌, ℕ, ◌+◌, ◌<◌, ◌≤◌, List, [], ◌∷◌, ◌++◌, length, drop, get_or, ap, sym, append_assoc, ◌∙◌}
use Rattle.std.specs.List.{before_first}
use Rattle.std.proofs.lemmas.List.{at_drop_more, at_drop_all, append-nil}
use Rattle.image.specs.declared.ranges.Func.{Func}
use Rattle.image.specs.Picture.{Picture}
use Rattle.branch_ring.specs.declared.counted.Counted.{Counted}
use Rattle.drawing.specs.declared.parts.Function.{Function}
use Rattle.drawing.specs.declared.parts.Place.{Place}
use Rattle.seen.specs.declared.moved.Placed.{Placed}
use Rattle.seen.specs.Moved.{begins}
use Rattle.seen.specs.Pictures.{drawn_function, functions_from, piece_places, places_of}

pub functions_more : (p : Picture) (profile : List Counted) (names : List (List ℕ)) (funcs : List Func) (n : ℕ) (d : Func) (before all : List Function) → n < length funcs
    → before ++ functions_from p profile names n (drop n funcs) ≡ all
    → (before ++ drawn_function p profile names n (get_or funcs n d) ∷ []) ++ functions_from p profile names (n + 1) (drop (n + 1) funcs) ≡ all
functions_more p profile names funcs n d before all within is =
    append_assoc before (drawn_function p profile names n (get_or funcs n d) ∷ []) (functions_from p profile names (n + 1) (drop (n + 1) funcs))
    ∙ ap (λ t. before ++ t) (sym (at_drop_more (functions_from p profile names n) funcs n d within)) ∙ is

pub functions_done : (p : Picture) (profile : List Counted) (names : List (List ℕ)) (funcs : List Func) (n : ℕ) (before all : List Function) → length funcs ≤ n
    → before ++ functions_from p profile names n (drop n funcs) ≡ all → before ≡ all
functions_done p profile names funcs n before all past is =
    sym (append-nil before) ∙ ap (λ t. before ++ t) (sym (at_drop_all (functions_from p profile names n) funcs n past)) ∙ is

pub places_more : (words : List Placed) (i : ℕ) (d : Placed) (before all : List Place) → i < length words → before ++ places_of (drop i words) ≡ all
    → (before ++ piece_places (get_or words i d).begins (get_or words i d).at (before_first begins (drop (i + 1) words))) ++ places_of (drop (i + 1) words) ≡ all
places_more words i d before all within is =
    append_assoc before (piece_places (get_or words i d).begins (get_or words i d).at (before_first begins (drop (i + 1) words))) (places_of (drop (i + 1) words))
    ∙ ap (λ t. before ++ t) (sym (at_drop_more places_of words i d within)) ∙ is

pub places_done : (words : List Placed) (i : ℕ) (before all : List Place) → length words ≤ i → before ++ places_of (drop i words) ≡ all → before ≡ all
places_done words i before all past is = sym (append-nil before) ∙ ap (λ t. before ++ t) (sym (at_drop_all places_of words i past)) ∙ is
