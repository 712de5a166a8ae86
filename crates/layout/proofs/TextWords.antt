-- What an image keeps of the words of its text.
use Rattle.std.proofs.Common.{◌≡◌, ℕ, zero, suc, ◌+◌, ◌-◌, ◌*◌, ◌/◌, ◌%◌, ◌^◌, ◌==◌, ◌≤◌, ◌<◌, Bool, true, false, List, [], ◌∷◌, refl, sym, ◌∙◌, ap, subst, inl, inr, arith}
use Rattle.std.specs.Prelude.{Option, Some, None, ℤ, pos, negsuc, ◌+ℤ◌, find, slice_get, nat_le, nat_lt, ◌⊎◌, option_and_then, if◌then◌else◌}
use Rattle.std.specs.List.{Contains, flat_map, filter_map, cons_option}
use Rattle.std.proofs.lemmas.Option.{slice_get_within}
use Rattle.std.proofs.lemmas.Bool.{eqb-true, leb-true, ltb-true, and_parts}
use Rattle.std.proofs.lemmas.Bool.Decides.{nat_tests}
use Rattle.std.proofs.lemmas.List.Elements.{All-contains, Contains-append_left, Contains-append_right}
use Rattle.rv_isa.specs.Decoded.{decoded}
use Rattle.rv_isa.specs.declared.instr.Instr.{Instr}
use Rattle.image.specs.declared.ranges.TextRange.{TextRange}
use Rattle.image.specs.Targets.{reduced, target}
use Rattle.image.specs.Jumps.{direct_target, goes_to}
use Rattle.image.specs.Texts.{text_end, covers, word_in, word_at, words_from, text_words, aim_of, targets}
use Rattle.image.specs.Picture.{Picture, IsText, IsKept}
use Rattle.layout.specs.Points.{in_range}

-- a word of text, in its range
pub record IsWordOf (texts : List TextRange) (x w : ℕ) : Type 0 where
  pub text : TextRange
  pub place : ℕ
  pub is_text : Contains texts text
  pub at : x ≡ text.from + 4 * place
  pub word : slice_get text.words place ≡ Some w

pub found : {X : Type 0} (p : X → Bool) (xs : List X) (x : X) → find p xs ≡ Some x → Contains xs x × (p x ≡ true)
found p [] x e = absurd (cc)
found p (y ∷ ys) x e = by_test (p y) refl e (found p ys x)
  where
    later : Contains ys x × (p x ≡ true) → Contains (y ∷ ys) x × (p x ≡ true)
    later h = (Contains-append_right (y ∷ []) ys x h.0, h.1)

    by_test : (b : Bool) → p y ≡ b → (if b then Some y else find p ys) ≡ Some x → (find p ys ≡ Some x → Contains ys x × (p x ≡ true)) → Contains (y ∷ ys) x × (p x ≡ true)
    by_test true q e h = let same : y ≡ x = cc in ((0, omega arith, same), ap p (sym same) ∙ q)
    by_test false q e h = later (h e)

in_text : (x w : ℕ) (texts : List TextRange) (t : TextRange) → find (covers x) texts ≡ Some t → word_in x t ≡ Some w → IsWordOf texts x w
unfolding word_in
in_text x w texts t f e = by_test ((x - t.from) % 4 == 0) refl e
  where
    by_test : (b : Bool) → ((x - t.from) % 4 == 0) ≡ b → (if b then slice_get t.words ((x - t.from) / 4) else None) ≡ Some w → IsWordOf texts x w
    by_test true q e =
        let in_list = found (covers x) texts t f in
        let low = leb-true t.from x (and_parts (nat_le t.from x) (nat_lt x (text_end t)) in_list.1).0 in
        let whole = eqb-true ((x - t.from) % 4) 0 q in
        record { text = t; place = (x - t.from) / 4; is_text = in_list.0; at = omega arith; word = e }
    by_test false q e = absurd (cc)

pub text_word : (texts : List TextRange) (x w : ℕ) → word_at texts x ≡ Some w → IsWordOf texts x w
unfolding word_at
text_word texts x w e = by_text (find (covers x) texts) refl e
  where
    by_text : (o : Option TextRange) → find (covers x) texts ≡ o → option_and_then (word_in x) o ≡ Some w → IsWordOf texts x w
    by_text None f e = absurd (cc)
    by_text (Some t) f e = in_text x w texts t f e

module _ (p : Picture) (kept : IsKept p) (x w : ℕ) (is : word_at p.texts x ≡ Some w) where
  here : IsWordOf p.texts x w
  here = text_word p.texts x w is

  fits : IsText here.text
  fits = All-contains IsText p.texts here.text kept.texts_fit here.is_text

  pub text_high : x + 4 ≤ 0x08000000
  text_high =
      let at = here.at in
      let within = slice_get_within here.text.words here.place w here.word in
      let high = fits.high in
      omega (arith, at, within, high)

  pub text_whole : x % 4 ≡ 0
  text_whole =
      let at = here.at in
      let whole = fits.whole in
      omega (arith, at, whole)

  -- neither a word of text nor the four bytes after it lie in the region
  pub text_outside : (y : ℕ) → x ≤ y → y ≤ x + 4 → in_range p.region y ≡ false
  text_outside y low high = by_test (in_range p.region y) refl
    where
      clash : (y < here.text.from) ⊎ (text_end here.text + 4 ≤ y) → ⊥
      clash (inl h) = let at = here.at in omega (arith, at)
      clash (inr h) =
          let at = here.at in
          let within = slice_get_within here.text.words here.place w here.word in
          omega (arith, at, within)

      by_test : (b : Bool) → in_range p.region y ≡ b → b ≡ false
      by_test false e = refl
      by_test true e =
          let t = and_parts (nat_le p.region.from y) (nat_lt y p.region.to) e in
          let free = kept.region.free y (leb-true _ _ t.0) (ltb-true _ _ t.1) in
          absurd (clash (All-contains (λ t. (y < t.from) ⊎ (text_end t + 4 ≤ y)) p.texts here.text free.no_text here.is_text))

-- ---- targets
in_words : (a k w : ℕ) (ws : List ℕ) → slice_get ws k ≡ Some w → Contains (words_from a ws) (a + 4 * k, w)
in_words a k w [] e = absurd (cc)
in_words a zero w (v ∷ vs) e =
    let same : v ≡ w = cc in
    let at : a ≡ a + 4 * 0 = omega arith in
    (0, omega arith, λ i. (at i, same i))
in_words a (suc k) w (v ∷ vs) e =
    let at : a + 4 + 4 * k ≡ a + 4 * suc k = omega arith in
    Contains-append_right ((a, v) ∷ []) (words_from (a + 4) vs) (a + 4 * suc k, w) (subst (λ (n : ℕ). Contains (words_from (a + 4) vs) (n, w)) at (in_words (a + 4) k w vs e))

in_flat : {X Y : Type 0} (f : X → List Y) (xs : List X) (x : X) (y : Y) → Contains xs x → Contains (f x) y → Contains (flat_map f xs) y
in_flat f [] x y (k, h, e) c = absurd (omega arith)
in_flat f (z ∷ zs) x y (zero, h, e) c = Contains-append_left (f z) (flat_map f zs) y (subst (λ (u : _). Contains (f u) y) (sym e) c)
in_flat f (z ∷ zs) x y (suc k, h, e) c = Contains-append_right (f z) (flat_map f zs) y (in_flat f zs x y (k, omega arith, e) c)

in_filtered : {X Y : Type 0} (f : X → Option Y) (xs : List X) (x : X) (y : Y) → Contains xs x → f x ≡ Some y → Contains (filter_map f xs) y
in_filtered f [] x y (k, h, e) q = absurd (omega arith)
in_filtered f (z ∷ zs) x y (zero, h, e) q = by_some (f z) (ap f e ∙ q)
  where
    by_some : (o : Option _) → o ≡ Some y → Contains (cons_option o (filter_map f zs)) y
    by_some None e = absurd (cc)
    by_some (Some u) e = let same : u ≡ y = cc in (0, omega arith, same)
in_filtered f (z ∷ zs) x y (suc k, h, e) q = later (f z) (in_filtered f zs x y (k, omega arith, e) q)
  where
    later : (o : Option _) → Contains (filter_map f zs) y → Contains (cons_option o (filter_map f zs)) y
    later None c = c
    later (Some u) c = Contains-append_right (u ∷ []) (filter_map f zs) y c

pub target_listed : (texts : List TextRange) (x w t : ℕ) → word_at texts x ≡ Some w → direct_target w x ≡ Some t → Contains (targets texts) t
unfolding targets
target_listed texts x w t e d =
    let h = text_word texts x w e in
    in_filtered aim_of (flat_map text_words texts) (x, w) t
    (in_flat text_words texts h.text (x, w) h.is_text (subst (λ (n : ℕ). Contains (text_words h.text) (n, w)) (sym h.at) (in_words h.text.from h.place w h.text.words h.word)))
    d

-- a JAL or branch of text doesn't go into the region
pub aimed_outside : (p : Picture) → IsKept p → (x w : ℕ) (i : Instr) (t : ℕ) → word_at p.texts x ≡ Some w → decoded w ≡ Some i → goes_to x i ≡ Some t → in_range p.region t ≡ false
unfolding direct_target
aimed_outside p kept x w i t e r g = by_place (All-contains (λ a. (a < p.region.from) ⊎ (p.region.to ≤ a)) (targets p.texts) t kept.region.no_aims (target_listed p.texts x w t e (rw r g)))
  where
    by_place : (t < p.region.from) ⊎ (p.region.to ≤ t) → in_range p.region t ≡ false
    by_place (inl h) = grind (arith, nat_tests)
    by_place (inr h) = grind (arith, nat_tests)

-- a target is a number of 64 bits
reduced_small : (z : ℤ) → reduced z < 2 ^ 64
reduced_small (pos n) = omega arith
reduced_small (negsuc n) = omega arith

pub target_small : (a : ℕ) (off : ℤ) → target a off < 2 ^ 64
unfolding target
target_small a off = reduced_small (pos a +ℤ off)
