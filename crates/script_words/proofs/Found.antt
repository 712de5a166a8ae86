-- The first that is told of an element, one on, and the elements of which all are read.
use Rattle.std.proofs.Common.{◌≡◌, ℕ, ◌+◌, ◌<◌, ◌≤◌, true, false, List, [], ◌∷◌, ◌++◌, length, map, take, drop, get_or, Option, Some, None, ap, sym, arith, ◌∙◌}
use Rattle.std.specs.Prelude.{is_some}
use Rattle.std.specs.Option.{option_or}
use Rattle.std.proofs.lemmas.List.{at_drop_more, at_drop_all, take_more, drop_more, get_or-map, length-map}
use Rattle.sched_log.specs.Plans.{all_of}
use Rattle.sched_log.proofs.Pieces.{behind_all, read_more, read_none}
use Rattle.script_words.specs.Parts.{first_told}

told_next : {X Y : Type 0} (f : List X → X → Option Y) (xs : List X) (i : ℕ) (d : X) → i < length xs → first_told f (take i xs) (drop i xs) ≡ option_or (f (take i xs) (get_or xs i d)) (first_told f (take (i + 1) xs) (drop (i + 1) xs))
told_next f xs i d lt = at_drop_more (first_told f (take i xs)) xs i d lt ∙ ap (λ b. option_or (f (take i xs) (get_or xs i d)) (first_told f b (drop (i + 1) xs))) (sym (take_more xs i d lt))

-- an element of which something is told
pub told_here : {X Y : Type 0} (f : List X → X → Option Y) (xs : List X) (i : ℕ) (d : X) (o : Option Y) → i < length xs → is_some o ≡ true → o ≡ f (take i xs) (get_or xs i d) → first_told f (take i xs) (drop i xs) ≡ o
told_here f xs i d None lt some is = absurd cc
told_here f xs i d (Some y) lt some is = told_next f xs i d lt ∙ ap (λ o. option_or o (first_told f (take (i + 1) xs) (drop (i + 1) xs))) (sym is)

-- an element of which nothing is told
pub told_later : {X Y : Type 0} (f : List X → X → Option Y) (xs : List X) (i : ℕ) (d : X) (o : Option Y) → i < length xs → is_some o ≡ false → o ≡ f (take i xs) (get_or xs i d) → first_told f (take i xs) (drop i xs) ≡ first_told f (take (i + 1) xs) (drop (i + 1) xs)
told_later f xs i d (Some y) lt some is = absurd cc
told_later f xs i d None lt some is = told_next f xs i d lt ∙ ap (λ o. option_or o (first_told f (take (i + 1) xs) (drop (i + 1) xs))) (sym is)

pub told_done : {X Y : Type 0} (f : List X → X → Option Y) (xs : List X) (i : ℕ) → length xs ≤ i → first_told f (take i xs) (drop i xs) ≡ None
told_done f xs i past = at_drop_all (first_told f (take i xs)) xs i past

first_left : {W X : Type 0} (now : W → X) (ws : List W) (i : ℕ) (d : W) → i < length ws → drop i (map now ws) ≡ now (get_or ws i d) ∷ drop (i + 1) (map now ws)
first_left now ws i d lt =
    drop_more (map now ws) i (now d) (omega (arith, lt, length-map ws now))
    ∙ ap (λ x. x ∷ drop (i + 1) (map now ws)) (get_or-map now ws i d (now d) lt)

-- one element more is read, or isn't
pub next_read : {W X Y : Type 0} (f : X → Option Y) (now : W → X) (made : List Y) (ws : List W) (i : ℕ) (d : W) (y : Y) → i < length ws → Some y ≡ f (now (get_or ws i d)) → behind_all made (all_of f (drop i (map now ws))) ≡ behind_all (made ++ y ∷ []) (all_of f (drop (i + 1) (map now ws)))
next_read f now made ws i d y lt is =
    let at : drop i (map now ws) ≡ now (get_or ws i d) ∷ drop (i + 1) (map now ws) = first_left now ws i d lt in
    ap (λ xs. behind_all made (all_of f xs)) at ∙ read_more f made (now (get_or ws i d)) (drop (i + 1) (map now ws)) y is

pub next_unread : {W X Y : Type 0} (f : X → Option Y) (now : W → X) (made : List Y) (ws : List W) (i : ℕ) (d : W) → i < length ws → None ≡ f (now (get_or ws i d)) → behind_all made (all_of f (drop i (map now ws))) ≡ None
next_unread f now made ws i d lt is =
    let at : drop i (map now ws) ≡ now (get_or ws i d) ∷ drop (i + 1) (map now ws) = first_left now ws i d lt in
    ap (λ xs. behind_all made (all_of f xs)) at ∙ read_none f made (now (get_or ws i d)) (drop (i + 1) (map now ws)) is
