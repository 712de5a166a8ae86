-- The file, written in steps, is the whole file.
use Rattle.std.proofs.Common.{◌≡◌, ℕ, ◌≤◌, List, [], ◌∷◌, ◌++◌, length, take, drop, replicate, refl, sym, ap, ◌∙◌, arith, length-append, length-drop}
use Rattle.std.specs.List.{flat_map}
use Rattle.std.proofs.lemmas.List.{append-nil, length-replicate, drop_all, take_all}
use Rattle.rv_asm.specs.declared.program.Program.{Program}
use Rattle.elf_make.specs.Bytes.{placed, laid}
use Rattle.elf_make.specs.Rows.{file_header, section_header}
use Rattle.elf_make.specs.File.{header_of, sections, sections_at, loaded_parts, table_parts, parts, elf_of}
use Rattle.elf_make.proofs.Lengths.{length-file_header}
use Rattle.elf_make.proofs.Holding.{laid_after}

laid-append : (file : List ℕ) (xs ys : List (ℕ × List ℕ)) → laid file (xs ++ ys) ≡ laid (laid file xs) ys
unfolding laid
laid-append file [] ys = refl
laid-append file (x ∷ xs) ys = laid-append (placed file x.0 x.1) xs ys

in_steps : (file : List ℕ) (p : Program) → laid file (parts p) ≡ placed (laid (laid file (loaded_parts p)) (table_parts p)) (sections_at p) (flat_map section_header (sections p))
unfolding laid
in_steps file p =
    let last = (sections_at p, flat_map section_header (sections p)) ∷ [] in
    laid-append file (loaded_parts p) (table_parts p ++ last) ∙ laid-append (laid file (loaded_parts p)) (table_parts p) last

pub whole_is : (p : Program) (first second third : List ℕ) → first ≡ laid (replicate 64 0) (loaded_parts p) → second ≡ laid first (table_parts p) → third ≡ placed second (sections_at p) (flat_map section_header (sections p)) → file_header (header_of p) ++ drop 64 third ≡ elf_of p
unfolding elf_of
whole_is p first second third a b c =
    let zeros : List ℕ = replicate 64 0 in
    let h = file_header (header_of p) in
    let same : length zeros ≡ length h = omega (arith, length-file_header (header_of p), length-replicate {A = ℕ} 64 0) in
    let len : length zeros ≡ 64 = length-replicate {A = ℕ} 64 0 in
    let made : third ≡ laid zeros (parts p) = c ∙ ap (λ f. placed f (sections_at p) (flat_map section_header (sections p))) (b ∙ ap (λ f. laid f (table_parts p)) a) ∙ sym (in_steps zeros p) in
    ap (λ f. h ++ drop 64 f) made
    ∙ ap (λ f. h ++ drop 64 (laid f (parts p))) (sym (append-nil zeros))
    ∙ sym (laid_after zeros h [] (parts p) same)
    ∙ ap (λ f. laid f (parts p)) (append-nil h)

pub patched : (n : ℕ) (items new header : List ℕ) → n ≡ length items → new ≡ header ++ drop 64 items → length header ≡ 64 → 64 ≤ length items → take n (new ++ drop (length new) items) ≡ header ++ drop 64 items
patched n items new header len is size room =
    let whole : length new ≡ length items = omega (arith, ap length is, length-append header (drop 64 items), length-drop 64 items) in
    ap (λ rest. take n (new ++ rest)) (drop_all (length new) items (omega arith)) ∙ ap (take n) (append-nil new) ∙ take_all n new (omega arith) ∙ is
