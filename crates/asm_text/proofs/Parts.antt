-- Lists of parts and of lines, one element more.
use Rattle.std.proofs.Common.{◌≡◌, ℕ, zero, suc, ◌+◌, ◌<◌, ◌≤◌, arith, sym, ◌∙◌, append_assoc, length, take, drop, get_or, List, [], ◌∷◌, ◌++◌, map, refl, ap}
use Rattle.std.specs.List.{flat_map}
use Rattle.std.proofs.lemmas.List.{length-map, at_drop_more, at_drop_all}
use Rattle.std.proofs.lemmas.Grind.{common_steps}
use Rattle.asm_text.specs.declared.statement.Statement.{Statement}
use Rattle.asm_text.specs.Statements.{line_statements, statements_from}

pub flat_of_map : {X Y Z : Type 0} (f : Y → List Z) (h : X → Y) (xs : List X) → flat_map f (map h xs) ≡ flat_map (λ x. f (h x)) xs
flat_of_map f h [] = refl
flat_of_map f h (x ∷ xs) = ap (λ more. f (h x) ++ more) (flat_of_map f h xs)

flat_map_more : {X Y : Type 0} (f : X → List Y) (xs : List X) (i : ℕ) (d : X) → i < length xs → flat_map f (take (i + 1) xs) ≡ flat_map f (take i xs) ++ f (get_or xs i d)
flat_map_more f xs i d lt = grind (arith, common_steps)

pub part_more : {X Y : Type 0} (f : X → List Y) (xs : List X) (i : ℕ) (d : X) (all : List Y) → i < length xs → (all ++ flat_map f (take i xs)) ++ f (get_or xs i d) ≡ all ++ flat_map f (take (i + 1) xs)
part_more f xs i d all lt = append_assoc all (flat_map f (take i xs)) (f (get_or xs i d)) ∙ ap (λ ys. all ++ ys) (sym (flat_map_more f xs i d lt))

get_or-map : {X Y : Type 0} (h : X → Y) (xs : List X) (i : ℕ) (d : X) → i < length xs → get_or (map h xs) i (h d) ≡ h (get_or xs i d)
get_or-map h [] i d lt = refl
get_or-map h (x ∷ xs) zero d lt = refl
get_or-map h (x ∷ xs) (suc i) d lt = get_or-map h xs i d (omega arith)

pub line_more : {X : Type 0} (h : X → List ℕ) (ls : List X) (i n : ℕ) (d : X) (all : List Statement) → i < length ls → all ++ statements_from n (drop i (map h ls)) ≡ (all ++ line_statements n (h (get_or ls i d))) ++ statements_from (n + 1) (drop (i + 1) (map h ls))
line_more h ls i n d all lt =
    let here = at_drop_more (statements_from n) (map h ls) i (h d) (omega (arith, length-map ls h)) ∙ ap (λ l. line_statements n l ++ statements_from (n + 1) (drop (i + 1) (map h ls))) (get_or-map h ls i d lt) in
    ap (λ xs. all ++ xs) here ∙ sym (append_assoc all (line_statements n (h (get_or ls i d))) (statements_from (n + 1) (drop (i + 1) (map h ls))))

pub lines_done : {X : Type 0} (h : X → List ℕ) (ls : List X) (i n : ℕ) → length ls ≤ i → statements_from n (drop i (map h ls)) ≡ []
lines_done h ls i n le = at_drop_all (statements_from n) (map h ls) i (omega (arith, length-map ls h))
