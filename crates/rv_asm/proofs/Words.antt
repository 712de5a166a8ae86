-- One word more.
use Rattle.std.proofs.Common.{◌≡◌, ℕ, ◌+◌, ◌<◌, List, [], ◌∷◌, ◌++◌, length, take, get_or, subst, sym, ap, ◌∙◌, replicate, append_assoc}
use Rattle.std.proofs.lemmas.List.{take_more, replicate-append-replicate}
use Rattle.rv_asm.specs.declared.code.Code.{Code}
use Rattle.rv_asm.specs.Emission.{Stands, AreWords}

snoc : (words : List ℕ) (codes : List Code) (w : ℕ) (c : Code) → AreWords words codes → Stands w c → AreWords (words ++ w ∷ []) (codes ++ c ∷ [])
snoc [] [] w c all one = (one, record {})
snoc [] (c ∷ codes) w d all one = absurd all
snoc (w ∷ words) [] v d all one = absurd all
snoc (w ∷ words) (c ∷ codes) v d all one = (all.0, snoc words codes v d all.1 one)

pub word_more : (words : List ℕ) (codes : List Code) (i w : ℕ) (d : Code) → i < length codes → AreWords words (take i codes) → Stands w (get_or codes i d) → AreWords (words ++ w ∷ []) (take (i + 1) codes)
word_more words codes i w d lt all one = subst (AreWords (words ++ w ∷ [])) (sym (take_more codes i d lt)) (snoc words (take i codes) w (get_or codes i d) all one)

pub one_more : {X : Type 0} (all : List X) (i : ℕ) (x : X) → (all ++ replicate i x) ++ x ∷ [] ≡ all ++ replicate (i + 1) x
one_more all i x = append_assoc all (replicate i x) (x ∷ []) ∙ ap (λ xs. all ++ xs) (replicate-append-replicate i 1 x)
