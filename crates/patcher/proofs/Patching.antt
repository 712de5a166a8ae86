-- What patches leave at each address.
use Rattle.std.proofs.Common.{◌≡◌, ℕ, zero, suc, ◌-◌, ◌/◌, ◌%◌, ◌==◌, Bool, true, false, List, [], ◌∷◌, length, get_or, map, refl, sym, ◌∙◌, ap, inl, inr, arith}
use Rattle.std.specs.Prelude.{◌⊎◌, Option, Some, None, IsSome, is_some, slice_get, nat_le, ◌&&◌, All, if◌then◌else◌}
use Rattle.std.proofs.lemmas.List.{length-set}
use Rattle.std.proofs.lemmas.List.Elements.{All-tail}
use Rattle.image.specs.declared.ranges.TextRange.{TextRange}
use Rattle.image.specs.Texts.{covers, word_in, word_at}
use Rattle.image.specs.Picture.{Picture, IsKept}
use Rattle.layout.specs.Laid.{Laid, IsLaid, item_at, point_in, with_word}
use Rattle.layout.specs.Points.{site_of, second_of}
use Rattle.layout.proofs.CallWords.{site_is_jal, second_is_jalr}
use Rattle.patcher.specs.declared.goal.Goal.{Goal}
use Rattle.patcher.specs.declared.patches.Patch.{Patch}
use Rattle.patcher.specs.declared.patches.Patches.{Patches}
use Rattle.patcher.specs.Goals.{goal_of, goal_in}
use Rattle.patcher.specs.Texts.{text_span, IsTextOf, text_with}
use Rattle.patcher.specs.Patched.{HasGoal, ArePatchesOf, EachPatches, ArePatches, texts_with, layout_with, layouts_with, FitsText, FitsLayout, EachFits, Fits, IsSet, IsPatchedText, IsPatchedLayout, ArePatched}
use Rattle.patcher.proofs.Words.{word_first, word_later, spans_kept}
use Rattle.patcher.proofs.PutAll.{text_untouched, text_touched, layout_untouched, layout_touched}
use Rattle.patcher.proofs.CallLists.{goal_calls, start_called}

-- ---- words stand where ranges do
same_get : {X Y : Type 0} (xs : List X) (ys : List Y) (i : ℕ) → length xs ≡ length ys → is_some (slice_get xs i) ≡ is_some (slice_get ys i)
same_get [] [] i e = refl
same_get [] (y ∷ ys) i e = absurd (omega arith)
same_get (x ∷ xs) [] i e = absurd (omega arith)
same_get (x ∷ xs) (y ∷ ys) zero e = refl
same_get (x ∷ xs) (y ∷ ys) (suc i) e = same_get xs ys i (omega arith)

pub same_item : {X Y : Type 0} (base : ℕ) (xs : List X) (ys : List Y) (a : ℕ) → length xs ≡ length ys → is_some (item_at base xs a) ≡ is_some (item_at base ys a)
unfolding item_at
same_item base xs ys a e = by_test (nat_le base a && ((a - base) % 4 == 0))
  where
    by_test : (b : Bool) → is_some (if b then slice_get xs ((a - base) / 4) else None) ≡ is_some (if b then slice_get ys ((a - base) / 4) else None)
    by_test true = same_get xs ys ((a - base) / 4) e
    by_test false = refl

word_in_same : (a : ℕ) (t u : TextRange) → t.from ≡ u.from → length t.words ≡ length u.words → is_some (word_in a t) ≡ is_some (word_in a u)
unfolding word_in
word_in_same a t u f n = rw f (by_test ((a - u.from) % 4 == 0))
  where
    by_test : (b : Bool) → is_some (if b then slice_get t.words ((a - u.from) / 4) else None) ≡ is_some (if b then slice_get u.words ((a - u.from) / 4) else None)
    by_test true = same_get t.words u.words ((a - u.from) / 4) n
    by_test false = refl

covers_same : (a : ℕ) (t u : TextRange) → text_span t ≡ text_span u → covers a t ≡ covers a u
covers_same a t u e = rw (ap (λ (s : ℕ × ℕ). s.0) e, ap (λ (s : ℕ × ℕ). s.1) e) refl

pub words_same : (a : ℕ) (ts us : List TextRange) → map text_span ts ≡ map text_span us → is_some (word_at ts a) ≡ is_some (word_at us a)
words_same a [] [] e = refl
words_same a [] (u ∷ us) e = absurd (let n = ap length e in omega (arith, n))
words_same a (t ∷ ts) [] e = absurd (let n = ap length e in omega (arith, n))
words_same a (t ∷ ts) (u ∷ us) e = by_cover (covers a u) refl (words_same a ts us)
  where
    head : text_span t ≡ text_span u
    head = ap (λ (ss : List (ℕ × ℕ)). get_or ss 0 (0, 0)) e

    tail : map text_span ts ≡ map text_span us
    tail = ap (λ (ss : List (ℕ × ℕ)). drop_one ss) e
      where
        drop_one : List (ℕ × ℕ) → List (ℕ × ℕ)
        drop_one [] = []
        drop_one (s ∷ ss) = ss

    by_cover : (b : Bool) → covers a u ≡ b → (map text_span ts ≡ map text_span us → is_some (word_at ts a) ≡ is_some (word_at us a)) → is_some (word_at (t ∷ ts) a) ≡ is_some (word_at (u ∷ us) a)
    by_cover true c ih =
        ap is_some (word_first t ts a (covers_same a t u head ∙ c))
        ∙ word_in_same a t u (ap (λ (s : ℕ × ℕ). s.0) head) (ap (λ (s : ℕ × ℕ). s.1) head)
        ∙ sym (ap is_some (word_first u us a c))
    by_cover false c ih =
        ap is_some (word_later t ts a (covers_same a t u head ∙ c)) ∙ ih tail ∙ sym (ap is_some (word_later u us a c))

-- ---- patches fit
pub call_stands : (p : Picture) → IsKept p → (new : Option Laid) (x : ℕ) (g : Goal) → goal_of p new x ≡ Some g → IsSome (word_at p.texts x)
call_stands p k new x g e = by_call (goal_calls p new x g e)
  where
    by_call : ((f : ℕ) × (site_of p x ≡ Some f)) ⊎ ((f : ℕ) × (second_of p x ≡ Some f)) → IsSome (word_at p.texts x)
    by_call (inl h) = let j = site_is_jal p k x h.0 h.1 in rw j.stands refl
    by_call (inr h) = let j = second_is_jalr p k x h.0 h.1 in rw j.stands refl

fits_text : (p : Picture) → IsKept p → (new : Option Laid) (now : List TextRange) (list : List Patch) → IsTextOf p now → All (HasGoal (goal_of p new)) list → FitsText now list
fits_text p k new now list t h i d lt =
    let g = h i d lt in
    words_same (get_or list i d).at now p.texts t ∙ call_stands p k new (get_or list i d).at g.0 g.1

fits_layout : (p : Picture) (new : Option Laid) (l : Laid) (list : List Patch) → IsLaid l → All (HasGoal (goal_in p new l)) list → FitsLayout l list
fits_layout p new l list laid h i d lt =
    let g = h i d lt in
    let s = start_called p new (point_in l (get_or list i d).at) g.0 g.1 in
    sym (same_item l.base l.points l.words (get_or list i d).at laid.each) ∙ (rw s.1 refl)

each_fits : (p : Picture) (new : Option Laid) (ls : List Laid) (ss : List (List Patch)) → All IsLaid ls → EachPatches p new ls ss → EachFits ls ss
each_fits p new [] [] a e = tt
each_fits p new [] (s ∷ ss) a e = absurd e
each_fits p new (l ∷ ls) [] a e = absurd e
each_fits p new (l ∷ ls) (s ∷ ss) a e = (fits_layout p new l s (a 0 l (omega arith)) e.0.each, each_fits p new ls ss (All-tail IsLaid l ls a) e.1)

pub fits : (p : Picture) (new : Option Laid) (now : List TextRange) (lives : List Laid) (q : Patches) → IsKept p → IsTextOf p now → All IsLaid lives → ArePatches p new lives q → Fits q now lives
fits p new now lives q k t a m = record { in_text = fits_text p k new now q.text t m.of_text.each; in_lives = each_fits p new lives q.lives a m.of_lives }

-- ---- words by address
pub spans_all : (list : List Patch) (ts : List TextRange) → map text_span (texts_with list ts) ≡ map text_span ts
spans_all [] ts = refl
spans_all (s ∷ ss) ts = spans_all ss (text_with s.at s.word ts) ∙ spans_kept s.at s.word ts

pub patched_text : (p : Picture) (new : Option Laid) (now : List TextRange) (list : List Patch) → ArePatchesOf (goal_of p new) list → FitsText now list → IsPatchedText p new now (texts_with list now)
patched_text p new now list m f = record { spans = spans_all list now; words = λ x. by_goal x (goal_of p new x) refl }
  where
    by_goal : (x : ℕ) (o : Option Goal) → goal_of p new x ≡ o → IsSet x o (word_at now x) (word_at (texts_with list now) x)
    by_goal x None e = text_untouched (goal_of p new) x list now e m.each f
    by_goal x (Some g) e = text_touched (goal_of p new) x g list now e m.each f (m.all x g e)

only_words : (list : List Patch) (l : Laid) → layout_with list l ≡ record l { words = (layout_with list l).words }
only_words [] l = refl
only_words (s ∷ ss) l = only_words ss (with_word s.at s.word l)

size_kept : (list : List Patch) (l : Laid) → length ((layout_with list l).words) ≡ length l.words
size_kept [] l = refl
size_kept (s ∷ ss) l = size_kept ss (with_word s.at s.word l) ∙ length-set l.words ((s.at - l.base) / 4) s.word

patched_layout : (p : Picture) (new : Option Laid) (l : Laid) (list : List Patch) → ArePatchesOf (goal_in p new l) list → FitsLayout l list → IsPatchedLayout p new l (layout_with list l)
patched_layout p new l list m f =
    let o = only_words list l in
    record {
      base = ap (λ (m : Laid). m.base) o;
      size = size_kept list l;
      points = ap (λ (m : Laid). m.points) o;
      sites = ap (λ (m : Laid). m.sites) o;
      pairs = ap (λ (m : Laid). m.pairs) o;
      words = λ a. by_goal a (goal_in p new l a) refl;
    }
  where
    by_goal : (a : ℕ) (o : Option Goal) → goal_in p new l a ≡ o → IsSet a o (item_at l.base l.words a) (item_at ((layout_with list l).base) ((layout_with list l).words) a)
    by_goal a None e = layout_untouched (goal_in p new l) a list l e m.each f
    by_goal a (Some g) e = layout_touched (goal_in p new l) a g list l e m.each f (m.all a g e)

pub patched_layouts : (p : Picture) (new : Option Laid) (ls : List Laid) (ss : List (List Patch)) → EachPatches p new ls ss → EachFits ls ss → ArePatched p new ls (layouts_with ss ls)
patched_layouts p new [] [] m f = tt
patched_layouts p new [] (s ∷ ss) m f = absurd m
patched_layouts p new (l ∷ ls) [] m f = absurd m
patched_layouts p new (l ∷ ls) (s ∷ ss) m f = (patched_layout p new l s m.0 f.0, patched_layouts p new ls ss m.1 f.1)
