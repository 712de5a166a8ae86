-- Lists made of the elements that pass a test, one element more.
use Rattle.std.proofs.Common.{◌≡◌, ℕ, ◌+◌, ◌<◌, Bool, true, false, cond, List, [], ◌∷◌, ◌++◌, length, map, take, get_or, arith}
use Rattle.std.specs.List.{filter, flat_map}
use Rattle.std.proofs.lemmas.Grind.{common_steps, flat_map-append}
use Rattle.std.proofs.lemmas.List.{map-append}
use Rattle.std.proofs.lemmas.List.Elements.{filter_more}

push_passed : {X Y : Type 0} (f : X → Y) (b : Bool) (xs : List X) (x : X) → map f (xs ++ cond b (x ∷ []) []) ≡ map f xs ++ cond b (f x ∷ []) []
push_passed f true xs x = map-append f xs (x ∷ [])
push_passed f false xs x = map-append f xs []

pub map_filter_more : {X Y : Type 0} (f : X → Y) (p : X → Bool) (xs : List X) (i : ℕ) (d : X) → i < length xs → map f (filter p (take (i + 1) xs)) ≡ map f (filter p (take i xs)) ++ cond (p (get_or xs i d)) (f (get_or xs i d) ∷ []) []
map_filter_more f p xs i d lt = rw (filter_more p xs i d lt) (push_passed f (p (get_or xs i d)) (filter p (take i xs)) (get_or xs i d))

join_passed : {X Y : Type 0} (f : X → List Y) (b : Bool) (xs : List X) (x : X) → flat_map f (xs ++ cond b (x ∷ []) []) ≡ flat_map f xs ++ cond b (f x) []
join_passed f true xs x = grind (arith, common_steps, flat_map-append)
join_passed f false xs x = grind (arith, common_steps, flat_map-append)

pub flat_map_filter_more : {X Y : Type 0} (f : X → List Y) (p : X → Bool) (xs : List X) (i : ℕ) (d : X) → i < length xs → flat_map f (filter p (take (i + 1) xs)) ≡ flat_map f (filter p (take i xs)) ++ cond (p (get_or xs i d)) (f (get_or xs i d)) []
flat_map_filter_more f p xs i d lt = rw (filter_more p xs i d lt) (join_passed f (p (get_or xs i d)) (filter p (take i xs)) (get_or xs i d))
