-- Cutting words into blocks, one word after another.
use Rattle.std.proofs.Common.{◌≡◌, ℕ, ◌+◌, ◌-◌, ◌<◌, List, [], ◌∷◌, ◌++◌, refl, sym, ◌∙◌, ap, append_assoc, arith, take, drop, drop-cons, add-one, suc, length, get_or}
use Rattle.std.specs.Prelude.{Bool, true, false, ◌||◌, if◌then◌else◌}
use Rattle.std.proofs.lemmas.Grind.{common_steps}
use Rattle.image.specs.declared.ranges.Func.{Func}
use Rattle.blocks.specs.declared.word.Word.{Word}
use Rattle.blocks.specs.declared.run.Run.{Run}
use Rattle.blocks.specs.Blocks.{is_empty, run_to, cut, runs_in, is_start}

-- what is cut so far and what is left, before a word and after it
cut_step : (starts : ℕ → Bool) (runs : List Run) (vs : List Word) (w : Word) (ws : List Word) (e : Bool) → e ≡ (is_empty ws || starts (w.at + 4))
    → (if e then runs ++ run_to vs w ∷ [] else runs) ++ cut starts (if e then [] else vs ++ w ∷ []) ws ≡ runs ++ cut starts vs (w ∷ ws)
cut_step starts runs vs w ws e p = rw p (by_test (is_empty ws || starts (w.at + 4)))
  where
    by_test : (b : Bool) → (if b then runs ++ run_to vs w ∷ [] else runs) ++ cut starts (if b then [] else vs ++ w ∷ []) ws
        ≡ runs ++ (if b then run_to vs w ∷ cut starts [] ws else cut starts (vs ++ w ∷ []) ws)
    by_test true = append_assoc runs (run_to vs w ∷ []) (cut starts [] ws)
    by_test false = refl

pub runs_cut : (f : Func) (ws : List Word) (s : ℕ → Bool) → ((y : ℕ) → s y ≡ is_start f ws y) → cut s [] ws ≡ runs_in f ws
unfolding runs_in
runs_cut f ws s e = ap (λ (u : ℕ → Bool). cut u [] ws) (λ i y. e y i)

pub cut_more : (s : ℕ → Bool) (runs new_runs : List Run) (vs new_vs words : List Word) (i : ℕ) (w : Word) (e : Bool) (all : List Run) → i < length words → w ≡ get_or words i w
    → e ≡ (is_empty (take (length words - (i + 1)) (drop (i + 1) words)) || s (w.at + 4)) → new_runs ≡ (if e then runs ++ run_to vs w ∷ [] else runs) → new_vs ≡ (if e then [] else vs ++ w ∷ [])
    → runs ++ cut s vs (drop i words) ≡ all → new_runs ++ cut s new_vs (drop (i + 1) words) ≡ all
cut_more s runs new_runs vs new_vs words i w e all l g p q r h =
    let d : drop i words ≡ w ∷ drop (i + 1) words = at_place in
    rw (q, r) (cut_step s runs vs w (drop (i + 1) words) e (p ∙ ap (λ (ws : List Word). is_empty ws || s (w.at + 4)) rest) ∙ ap (λ (ws : List Word). runs ++ cut s vs ws) (sym d) ∙ h)
  where
    rest : take (length words - (i + 1)) (drop (i + 1) words) ≡ drop (i + 1) words
    rest = grind (arith, common_steps)

    at_place : drop i words ≡ w ∷ drop (i + 1) words
    at_place = rw (add-one, drop-cons words i w) (ap (λ (v : Word). v ∷ drop (suc i) words) (sym g))
