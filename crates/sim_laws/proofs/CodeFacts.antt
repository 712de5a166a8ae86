-- The code of an image whose layouts are well formed, and where a hart goes on in it.
use Rattle.std.proofs.Common.{◌≡◌, ◌≢◌, ℕ, ◌+◌, ◌%◌, ◌<◌, Bool, true, false, List, [], ◌∷◌, refl, sym, ◌∙◌, ap, subst, arith}
use Rattle.std.specs.Prelude.{Option, Some, None, IsSome, All, if◌then◌else◌}
use Rattle.std.specs.Option.{option_map, option_or}
use Rattle.std.proofs.lemmas.Option.{slice_get_within, get_or_from_slice_get}
use Rattle.std.proofs.lemmas.List.Elements.{All-tail}
use Rattle.image.specs.Picture.{Picture, is_second}
use Rattle.image.specs.Picture as image
use Rattle.image.specs.Texts.{word_at}
use Rattle.layout.specs.declared.point.Point.{Point}
use Rattle.layout.specs.declared.point.Point.TheVariants.{Start, Hop, Mid}
use Rattle.layout.specs.Laid.{Laid, IsLaid, item_at}
use Rattle.layout.specs.Points.{Code, StandsFor, Here, here_of, here_in, here_home, here_point, live_at, in_range, code_of, read}
use Rattle.layout.proofs.Places.{item_place}
use Rattle.layout.proofs.TextRows.{read_same}
use Rattle.layout.proofs.TextWords.{text_high, text_whole, text_outside}
use Rattle.sim_laws.specs.Related.{Lands}
use Rattle.sim_laws.proofs.ImageFacts.{region_low}
use Rattle.sim_laws.specs.Codes.{IsCodeOf, GoesToWord, AreLive}

-- ---- layouts
-- what is said of a word of a layout
record IsHere (a : ℕ) (h : Here) : Type 0 where
  whole : a % 4 ≡ 0
  goes : GoesToWord h.point

here_is : (l : Laid) (a : ℕ) (h : Here) → IsLaid l → All GoesToWord l.points → here_in l a ≡ Some h → IsHere a h
unfolding here_in
here_is l a h laid hops e = by_items (item_at l.base l.words a) (item_at l.base l.points a) refl refl e
  where
    goes : (q : Point) → item_at l.base l.points a ≡ Some q → GoesToWord q
    goes q f =
        let t = item_place l.base l.points a q f in
        subst GoesToWord (get_or_from_slice_get l.points t.0 q q t.2) (hops t.0 q (slice_get_within l.points t.0 q t.2))

    by_items : (w : Option ℕ) (q : Option Point) → item_at l.base l.words a ≡ w → item_at l.base l.points a ≡ q → here_of l.base w q ≡ Some h → IsHere a h
    by_items None q f g e = absurd (cc)
    by_items (Some w) None f g e = absurd (cc)
    by_items (Some w) (Some q) f g e =
        let t = item_place l.base l.points a q g in
        let at = t.1 in
        let whole = laid.whole in
        let same : q ≡ h.point = ap (λ (o : Option Here). point_or q o) e in
        record { whole = omega (arith, at, whole); goes = subst GoesToWord same (goes q g) }
      where
        point_or : Point → Option Here → Point
        point_or q None = q
        point_or q (Some h) = h.point

live_is : (lives : List Laid) (a : ℕ) (h : Here) → All IsLaid lives → All (λ l. All GoesToWord l.points) lives → live_at lives a ≡ Some h → IsHere a h
unfolding live_at
live_is [] a h laid hops e = absurd (cc)
live_is (l ∷ ls) a h laid hops e =
    by_here (here_in l a) refl e (live_is ls a h (All-tail IsLaid l ls laid) (All-tail (λ l. All GoesToWord l.points) l ls hops))
  where
    by_here : (o : Option Here) → here_in l a ≡ o → option_or o (live_at ls a) ≡ Some h → (live_at ls a ≡ Some h → IsHere a h) → IsHere a h
    by_here None f g later = later g
    by_here (Some k) f g later = here_is l a h (laid 0 l (omega arith)) (hops 0 l (omega arith)) (f ∙ g)

module _ (p : Picture) (now : ℕ → Option ℕ) (lives : List Laid) (are : AreLive lives) where
  home_by : (o : Option Here) → IsSome (option_map here_point o) → IsSome (option_map here_home o)
  home_by None s = s
  home_by (Some h) s = refl

  whole_by : (a : ℕ) (o : Option Here) → live_at lives a ≡ o → IsSome (option_map here_point o) → a % 4 ≡ 0
  whole_by a None e s = absurd (cc)
  whole_by a (Some h) e s = (live_is lives a h are.laid are.hops e).whole

  hop_by : (a x : ℕ) (o : Option Here) → live_at lives a ≡ o → option_map here_point o ≡ Some (Hop x) → x % 4 ≡ 0
  hop_by a x None e s = absurd (cc)
  hop_by a x (Some h) e s =
      let is : h.point ≡ Hop x = cc in
      subst GoesToWord is (live_is lives a h are.laid are.hops e).goes

  hop_is : (a x : ℕ) (b : Bool) → (if b then option_map here_point (live_at lives a) else Some (Start a)) ≡ Some (Hop x) → x % 4 ≡ 0
  hop_is a x true e = hop_by a x (live_at lives a) refl e
  hop_is a x false e = absurd (cc)

  pub code_is : IsCodeOf p (code_of p now lives)
  code_is =
      record {
        text = λ x. refl;
        site = λ x. refl;
        second = λ x. refl;
        point = λ a e. rw e refl;
        home = λ a e. rw e refl;
        lives = λ a e s. rw e (home_by (live_at lives a) (rw e at s));
        whole = λ a e s. whole_by a (live_at lives a) refl (rw e at s);
        hops = λ a x e. hop_is a x (in_range p.region a) e;
      }

-- ---- where a hart goes on
module _ (p : Picture) (c : Code) (kept : image.IsKept p) (code : IsCodeOf p c) where
  -- the words of the original program
  pub text_word : (x w : ℕ) → c.text x ≡ Some w → word_at p.texts x ≡ Some w
  text_word x w e = sym (code.text x) ∙ e

  pub text_reads : (x : ℕ) → read c.text x ≡ read (word_at p.texts) x
  text_reads x = read_same c.text (word_at p.texts) x (code.text x)

  pub outside_start : (a x : ℕ) → in_range p.region a ≡ false → c.point a ≡ Some (Start x) → a ≡ x
  outside_start a x e s = let own = code.point a e in let same : Some (Start a) ≡ Some (Start x) = sym own ∙ s in cc

  -- a Start of a word of text is an address of the guest's space
  low_by : (a x w : ℕ) (b : Bool) → in_range p.region a ≡ b → c.point a ≡ Some (Start x) → word_at p.texts x ≡ Some w → a < 0x08000000
  low_by a x w true e s is = region_low p kept a e
  low_by a x w false e s is =
      let same = outside_start a x e s in
      let high = text_high p kept x w is in
      omega (arith, same, high)

  pub start_low : (a x w : ℕ) → c.point a ≡ Some (Start x) → word_at p.texts x ≡ Some w → a < 0x08000000
  start_low a x w s is = low_by a x w (in_range p.region a) refl s is

  -- a place that goes on as the word after one of text, if that is no second word
  pub lands_next : (a x w : ℕ) → word_at p.texts x ≡ Some w → StandsFor c a (x + 4) → is_second p.pairs (x + 4) ≡ false → Lands p c a (x + 4)
  lands_next a x w is s u =
      let whole = text_whole p kept x w is in
      let high = text_high p kept x w is in
      record {
        stands = s;
        whole = omega (arith, whole);
        fits = omega (arith, high);
        outside = text_outside p kept x w is (x + 4) (omega arith) (omega arith);
        unpaired = u;
      }

  -- a word at a Start that moved is followed by another than the original one
  pub moved_apart : (a x w : ℕ) → word_at p.texts x ≡ Some w → c.point (a + 4) ≡ Some (Mid x) → a ≢ x
  moved_apart a x w is m e =
      let out = text_outside p kept x w is (x + 4) (omega arith) (omega arith) in
      let own = code.point (x + 4) out in
      let same : Some (Mid x) ≡ Some (Start (x + 4)) = sym m ∙ ap (λ n. c.point (n + 4)) e ∙ own in
      cc
