-- Lines that are written one after another are read again.
use Rattle.std.proofs.Common.{◌≡◌, ℕ, ◌-◌, false, List, [], ◌∷◌, ◌++◌, length, refl, ap, arith, eqb, append_assoc, length-append, ◌∙◌}
use Rattle.std.specs.List.{slice_split, flat_map, All, AllByRecursion}
use Rattle.std.proofs.lemmas.List.{get_or_at, take-append-le, take_all}
use Rattle.std.proofs.lemmas.List.Splits.{slice_split_at}
use Rattle.texts.specs.Texts.{lines_of, without_last_empty}

abbrev pub IsOneLine : List ℕ → Type 0
IsOneLine line = All (λ b. eqb b 10 ≡ false) line

parts : (ls : List (List ℕ)) → AllByRecursion IsOneLine ls → slice_split (λ b. eqb b 10) (flat_map (λ l. l ++ 10 ∷ []) ls) ≡ ls ++ [] ∷ []
parts [] h = refl
parts (l ∷ ls) h =
    let rest = flat_map (λ l. l ++ 10 ∷ []) ls in
    let same : (l ++ 10 ∷ []) ++ rest ≡ l ++ 10 ∷ rest = append_assoc l (10 ∷ []) rest in
    ap (slice_split (λ b. eqb b 10)) same ∙ slice_split_at (λ b. eqb b 10) l 10 rest h.0 refl ∙ ap (λ more. l ∷ more) (parts ls h.1)

without : (ls : List (List ℕ)) → without_last_empty (ls ++ [] ∷ []) ≡ ls
without ls =
    let n : length (ls ++ [] ∷ []) - 1 ≡ length ls = omega (arith, length-append ls ([] ∷ [])) in
    rw (n, get_or_at ls [] [] [] (length ls) refl) (take-append-le (length ls) ls ([] ∷ []) (omega arith) ∙ take_all (length ls) ls (omega arith))

pub lines_back : (ls : List (List ℕ)) → AllByRecursion IsOneLine ls → lines_of (flat_map (λ l. l ++ 10 ∷ []) ls) ≡ ls
unfolding lines_of
lines_back ls h = ap without_last_empty (parts ls h) ∙ without ls
