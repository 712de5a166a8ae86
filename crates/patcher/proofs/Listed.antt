-- Lists of calls.
use Rattle.std.proofs.Common.{◌≡◌, ℕ, ◌+◌, ◌<◌, List, [], ◌++◌, drop, get_or, length, append_assoc, refl, sym, ◌∙◌, ap}
use Rattle.std.specs.Prelude.{Option, Some, None}
use Rattle.std.specs.List.{filter_map, cons_option}
use Rattle.std.proofs.lemmas.List.{drop_more}

cons_append : {X : Type 0} (o : Option X) (xs : List X) → cons_option o xs ≡ cons_option o [] ++ xs
cons_append None xs = refl
cons_append (Some x) xs = refl

-- one call more
pub calls_more : {X Y : Type 0} (f : X → Option Y) (before : List Y) (xs : List X) (i : ℕ) (d : X) → i < length xs
    → (before ++ cons_option (f (get_or xs i d)) []) ++ filter_map f (drop (i + 1) xs) ≡ before ++ filter_map f (drop i xs)
calls_more f before xs i d lt =
    append_assoc before (cons_option (f (get_or xs i d)) []) (filter_map f (drop (i + 1) xs))
    ∙ ap (λ (ys : List _). before ++ ys) (sym (cons_append (f (get_or xs i d)) (filter_map f (drop (i + 1) xs))) ∙ ap (filter_map f) (sym (drop_more xs i d lt)))
