-- Many words put, one after another.
use Rattle.std.proofs.Common.{◌≡◌, ℕ, zero, suc, ◌+◌, ◌==◌, ◌<◌, Bool, true, false, List, [], ◌∷◌, length, get_or, set, take, drop, refl, sym, ◌∙◌, ap, inl, inr, arith}
use Rattle.std.specs.Prelude.{◌⊎◌, Option, Some, None, IsSome, All, Any, if◌then◌else◌}
use Rattle.std.proofs.lemmas.Bool.{eqb-true, eqb-false, ne_eqb}
use Rattle.std.proofs.lemmas.List.{drop_more}
use Rattle.std.proofs.lemmas.List.Elements.{All-tail}
use Rattle.image.specs.declared.ranges.TextRange.{TextRange}
use Rattle.image.specs.Texts.{word_at}
use Rattle.layout.specs.Laid.{Laid, item_at, with_word}
use Rattle.patcher.specs.declared.goal.Goal.{Goal}
use Rattle.patcher.specs.declared.patches.Patch.{Patch}
use Rattle.patcher.specs.Goals.{IsMade}
use Rattle.patcher.specs.Texts.{text_with}
use Rattle.patcher.specs.Patched.{HasGoal, IsAt, put_all, texts_with, layout_with, layouts_with, FitsText, FitsLayout, EachFits}
use Rattle.patcher.proofs.Words.{item_with, word_with}

some_same : {X : Type 0} (x y : X) → Some x ≡ Some y → x ≡ y
some_same x y e = cc

module _ {S : Type 0} (put : ℕ → ℕ → S → S) (word : S → ℕ → Option ℕ)
    (law : (a w b : ℕ) (s : S) → IsSome (word s a) → word (put a w s) b ≡ (if b == a then Some w else word s b)) where
  pub fits_kept : (a w : ℕ) (s : S) (list : List Patch) → IsSome (word s a) → All (λ c. IsSome (word s c.at)) list → All (λ c. IsSome (word (put a w s) c.at)) list
  fits_kept a w s list h f k d lt = by_test (get_or list k d).at ((get_or list k d).at == a) refl (f k d lt)
    where
      by_test : (b : ℕ) (t : Bool) → (b == a) ≡ t → IsSome (word s b) → IsSome (word (put a w s) b)
      by_test b true e i = rw (law a w b s h, e) refl
      by_test b false e i = rw (law a w b s h, e) i

  there : (a w b : ℕ) (s : S) → IsSome (word s a) → b ≡ a → word (put a w s) b ≡ Some w
  there a w b s h e = let t : (b == a) ≡ true = rw e (refl_eq a) in law a w b s h ∙ rw t refl
    where
      refl_eq : (n : ℕ) → (n == n) ≡ true
      refl_eq n = by_test (n == n) refl
        where
          by_test : (t : Bool) → (n == n) ≡ t → t ≡ true
          by_test true e = refl
          by_test false e = absurd (eqb-false n n e refl)

  elsewhere : (a w b : ℕ) (s : S) → IsSome (word s a) → (b ≡ a → ⊥) → word (put a w s) b ≡ word s b
  elsewhere a w b s h n = law a w b s h ∙ (rw (ne_eqb b a n) refl)

  module _ (goals : ℕ → Option Goal) (x : ℕ) where
    -- what is no call stands
    pub untouched : (list : List Patch) (s : S) → goals x ≡ None → All (HasGoal goals) list → All (λ c. IsSome (word s c.at)) list → word (put_all put list s) x ≡ word s x
    untouched [] s n h f = refl
    untouched (c ∷ cs) s n h f =
        let in' : IsSome (word s c.at) = f 0 c (omega arith) in
        let g = h 0 c (omega arith) in
        untouched cs (put c.at c.word s) n (All-tail (HasGoal goals) c cs h) (fits_kept c.at c.word s cs in' (All-tail (λ d. IsSome (word s d.at)) c cs f))
        ∙ elsewhere c.at c.word x s in' (λ e. let k : goals x ≡ Some g.0 = ap goals e ∙ g.1 in absurd (cc))

    -- a call is what it was to become
    pub touched : (g : Goal) (list : List Patch) (s : S) → goals x ≡ Some g → All (HasGoal goals) list → All (λ c. IsSome (word s c.at)) list
        → ((w : ℕ) × (word s x ≡ Some w) × IsMade x g w) ⊎ Any (IsAt x) list → (w : ℕ) × (word (put_all put list s) x ≡ Some w) × IsMade x g w
    touched g [] s e h f (inl m) = m
    touched g [] s e h f (inr (k, y, lt, at, is)) = absurd (omega arith)
    touched g (c ∷ cs) s e h f m =
        touched g cs (put c.at c.word s) e (All-tail (HasGoal goals) c cs h) (fits_kept c.at c.word s cs in' (All-tail (λ d. IsSome (word s d.at)) c cs f)) (by_place (x == c.at) refl m)
      where
        in' : IsSome (word s c.at)
        in' = f 0 c (omega arith)

        here : x ≡ c.at → (w : ℕ) × (word (put c.at c.word s) x ≡ Some w) × IsMade x g w
        here i =
            let b = h 0 c (omega arith) in
            let same : b.0 ≡ g = some_same b.0 g (sym b.1 ∙ ap goals (sym i) ∙ e) in
            (c.word, there c.at c.word x s in' i, rw (i, sym same) b.2)

        by_place : (t : Bool) → (x == c.at) ≡ t → ((w : ℕ) × (word s x ≡ Some w) × IsMade x g w) ⊎ Any (IsAt x) (c ∷ cs)
            → ((w : ℕ) × (word (put c.at c.word s) x ≡ Some w) × IsMade x g w) ⊎ Any (IsAt x) cs
        by_place true i m = inl (here (eqb-true x c.at i))
        by_place false i (inl (w, at, is)) = inl (w, elsewhere c.at c.word x s in' (eqb-false x c.at i) ∙ at, is)
        by_place false i (inr (zero, y, lt, at, is)) = absurd (let n = eqb-false x c.at i in n (sym is ∙ ap (λ (d : Patch). d.at) (sym at)))
        by_place false i (inr (suc k, y, lt, at, is)) = inr (k, y, omega arith, at, is)

-- ---- text and layouts
text_law : (a w b : ℕ) (ts : List TextRange) → IsSome (word_at ts a) → word_at (text_with a w ts) b ≡ (if b == a then Some w else word_at ts b)
text_law a w b ts h = word_with a w b ts h

abbrev pub layout_word : Laid → ℕ → Option ℕ
layout_word l a = item_at l.base l.words a

layout_law : (a w b : ℕ) (l : Laid) → IsSome (layout_word l a) → layout_word (with_word a w l) b ≡ (if b == a then Some w else layout_word l b)
layout_law a w b l h = item_with l.base l.words a w b h

pub text_untouched : (goals : ℕ → Option Goal) (x : ℕ) (list : List Patch) (ts : List TextRange) → goals x ≡ None → All (HasGoal goals) list → FitsText ts list → word_at (texts_with list ts) x ≡ word_at ts x
text_untouched goals x list ts n h f = untouched text_with word_at text_law goals x list ts n h f

pub text_touched : (goals : ℕ → Option Goal) (x : ℕ) (g : Goal) (list : List Patch) (ts : List TextRange) → goals x ≡ Some g → All (HasGoal goals) list → FitsText ts list → Any (IsAt x) list
    → (w : ℕ) × (word_at (texts_with list ts) x ≡ Some w) × IsMade x g w
text_touched goals x g list ts e h f i = touched text_with word_at text_law goals x g list ts e h f (inr i)

pub layout_untouched : (goals : ℕ → Option Goal) (x : ℕ) (list : List Patch) (l : Laid) → goals x ≡ None → All (HasGoal goals) list → FitsLayout l list
    → layout_word (layout_with list l) x ≡ layout_word l x
layout_untouched goals x list l n h f = untouched with_word layout_word layout_law goals x list l n h f

pub layout_touched : (goals : ℕ → Option Goal) (x : ℕ) (g : Goal) (list : List Patch) (l : Laid) → goals x ≡ Some g → All (HasGoal goals) list → FitsLayout l list → Any (IsAt x) list
    → (w : ℕ) × (layout_word (layout_with list l) x ≡ Some w) × IsMade x g w
layout_touched goals x g list l e h f i = touched with_word layout_word layout_law goals x g list l e h f (inr i)

-- ---- one patch more
put_next : {S : Type 0} (put : ℕ → ℕ → S → S) (list : List Patch) (i : ℕ) (d : Patch) (s : S) → i < length list
    → put_all put (drop (i + 1) list) (put (get_or list i d).at (get_or list i d).word s) ≡ put_all put (drop i list) s
put_next put list i d s lt = rw (drop_more list i d lt) refl

pub texts_next : (list : List Patch) (i : ℕ) (d : Patch) (ts : List TextRange) → i < length list
    → texts_with (drop (i + 1) list) (text_with (get_or list i d).at (get_or list i d).word ts) ≡ texts_with (drop i list) ts
texts_next list i d ts lt = put_next text_with list i d ts lt

pub layout_next : (list : List Patch) (i : ℕ) (d : Patch) (l : Laid) → i < length list
    → layout_with (drop (i + 1) list) (with_word (get_or list i d).at (get_or list i d).word l) ≡ layout_with (drop i list) l
layout_next list i d l lt = put_next with_word list i d l lt

pub text_fits : (a w : ℕ) (ts : List TextRange) (list : List Patch) → IsSome (word_at ts a) → FitsText ts list → FitsText (text_with a w ts) list
text_fits a w ts list h f = fits_kept text_with word_at text_law a w ts list h f

pub layout_fits : (a w : ℕ) (l : Laid) (list : List Patch) → IsSome (layout_word l a) → FitsLayout l list → FitsLayout (with_word a w l) list
layout_fits a w l list h f = fits_kept with_word layout_word layout_law a w l list h f

-- ---- one layout more
pub still_within : (ls : List Laid) (ss : List (List Patch)) (i : ℕ) → EachFits ls ss → i < length ss → i < length (layouts_with (take i ss) ls)
still_within ls [] i f lt = absurd (omega arith)
still_within [] (s ∷ ss) i f lt = absurd f
still_within (l ∷ ls) (s ∷ ss) zero f lt = omega arith
still_within (l ∷ ls) (s ∷ ss) (suc i) f lt = let t = still_within ls ss i f.1 (omega arith) in omega (arith, t)

pub not_yet : (ls : List Laid) (ss : List (List Patch)) (i : ℕ) (d : Laid) (e : List Patch) → EachFits ls ss → i < length ss
    → FitsLayout (get_or (layouts_with (take i ss) ls) i d) (get_or ss i e)
not_yet ls [] i d e f lt = absurd (omega arith)
not_yet [] (s ∷ ss) i d e f lt = absurd f
not_yet (l ∷ ls) (s ∷ ss) zero d e f lt = f.0
not_yet (l ∷ ls) (s ∷ ss) (suc i) d e f lt = not_yet ls ss i d e f.1 (omega arith)

pub one_more : (ls : List Laid) (ss : List (List Patch)) (i : ℕ) (d : Laid) (e : List Patch) → EachFits ls ss → i < length ss
    → set (layouts_with (take i ss) ls) i (layout_with (get_or ss i e) (get_or (layouts_with (take i ss) ls) i d)) ≡ layouts_with (take (suc i) ss) ls
one_more ls [] i d e f lt = absurd (omega arith)
one_more [] (s ∷ ss) i d e f lt = absurd f
one_more (l ∷ ls) (s ∷ ss) zero d e f lt = refl
one_more (l ∷ ls) (s ∷ ss) (suc i) d e f lt = ap (λ (ms : List Laid). layout_with s l ∷ ms) (one_more ls ss i d e f.1 (omega arith))
