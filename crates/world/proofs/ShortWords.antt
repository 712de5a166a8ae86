-- The words that a replacement makes have 32 bits.
use Rattle.std.proofs.Common.{◌≡◌, ℕ, zero, suc, ◌==◌, ◌<◌, ◌^◌, Bool, true, false, List, [], ◌∷◌, refl, sym, ap, ◌∙◌, subst, inl, inr, arith}
use Rattle.std.specs.Prelude.{◌⊎◌, Option, Some, None, All, Any, IsSome, is_some, slice_get, if◌then◌else◌}
use Rattle.std.proofs.lemmas.Bool.{eqb-false}
use Rattle.std.proofs.lemmas.List.Elements.{All-tail}
use Rattle.image.specs.declared.ranges.TextRange.{TextRange}
use Rattle.image.specs.Texts.{word_at}
use Rattle.image.specs.Picture.{Picture}
use Rattle.layout.specs.Laid.{Laid}
use Rattle.patcher.specs.declared.goal.Goal.{Goal}
use Rattle.patcher.specs.declared.patches.Patch.{Patch}
use Rattle.patcher.specs.Goals.{goal_of}
use Rattle.patcher.specs.Texts.{text_with}
use Rattle.patcher.specs.Patched.{IsAt, ArePatchesOf, texts_with, FitsText}
use Rattle.patcher.proofs.Words.{word_with}
use Rattle.patcher.proofs.PutAll.{text_fits}
use Rattle.world.specs.Replacing.{HasShortWords, HasShortCalls}

short_items : (xs : List ℕ) → All (λ w. w < 2 ^ 32) xs → (k m : ℕ) → slice_get xs k ≡ Some m → m < 2 ^ 32
short_items [] h k m e = absurd (cc)
short_items (x ∷ xs) h zero m e = let same : x ≡ m = cc in let lt = h 0 0 (omega arith) in subst (λ n. n < 2 ^ 32) same lt
short_items (x ∷ xs) h (suc k) m e = short_items xs (All-tail (λ w. w < 2 ^ 32) x xs h) k m e

pub short_layout : (l : Laid) → All (λ w. w < 2 ^ 32) l.words → HasShortWords l
short_layout l h = short_items l.words h

-- a word that is short, or gets a patch, is short afterwards
Short : ℕ → List TextRange → Type 0
Short x ts = (m : ℕ) → word_at ts x ≡ Some m → m < 2 ^ 32

short_texts : (x : ℕ) (list : List Patch) (ts : List TextRange) → All (λ (s : Patch). s.word < 2 ^ 32) list → FitsText ts list → Short x ts ⊎ Any (IsAt x) list
    → Short x (texts_with list ts)
unfolding Short
short_texts x [] ts h f (inl s) = s
short_texts x [] ts h f (inr (k, y, lt, at, is)) = absurd (omega arith)
short_texts x (c ∷ cs) ts h f s =
    short_texts x cs (text_with c.at c.word ts) (All-tail (λ (d : Patch). d.word < 2 ^ 32) c cs h)
    (text_fits c.at c.word ts cs within (All-tail (λ (d : Patch). IsSome (word_at ts d.at)) c cs f)) (by_place (x == c.at) refl s)
  where
    within : IsSome (word_at ts c.at)
    within = f 0 c (omega arith)

    there : (b : Bool) → (x == c.at) ≡ b → word_at (text_with c.at c.word ts) x ≡ (if b then Some c.word else word_at ts x)
    there b e = word_with c.at c.word x ts within ∙ ap (λ t. if t then Some c.word else word_at ts x) e

    here : (m : ℕ) → Some c.word ≡ Some m → m < 2 ^ 32
    here m e = let same : c.word ≡ m = cc in subst (λ n. n < 2 ^ 32) same (h 0 c (omega arith))

    by_place : (b : Bool) → (x == c.at) ≡ b → Short x ts ⊎ Any (IsAt x) (c ∷ cs) → Short x (text_with c.at c.word ts) ⊎ Any (IsAt x) cs
    by_place true e s = inl (λ m g. here m (sym (there true e) ∙ g))
    by_place false e (inl s) = inl (λ m g. s m (sym (there false e) ∙ g))
    by_place false e (inr (zero, y, lt, at, is)) = absurd (let n = eqb-false x c.at e in n (sym is ∙ ap (λ (d : Patch). d.at) (sym at)))
    by_place false e (inr (suc k, y, lt, at, is)) = inr (k, y, omega arith, at, is)

pub short_calls : (p : Picture) (new : Option Laid) (now : List TextRange) (list : List Patch) → ArePatchesOf (goal_of p new) list → All (λ (s : Patch). s.word < 2 ^ 32) list → FitsText now list
    → HasShortCalls p new (texts_with list now)
unfolding Short
short_calls p new now list m h f a w is e = by_goal (goal_of p new a) refl is
  where
    by_goal : (o : Option Goal) → goal_of p new a ≡ o → is_some o ≡ true → w < 2 ^ 32
    by_goal None g t = absurd (cc)
    by_goal (Some x) g t = short_texts a list now h f (inr (m.all a x g)) w e
