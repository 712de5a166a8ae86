-- The code of a layout that stands alone, in the terms of its tests.
use Rattle.std.proofs.Common.{◌≡◌, ℕ, zero, suc, ◌-◌, ◌/◌, ◌%◌, ◌==◌, Bool, true, false, List, [], ◌∷◌, length, refl, sym, ◌∙◌, ap, inl, inr, arith}
use Rattle.std.specs.Prelude.{Option, Some, None, slice_get, nat_le, ◌&&◌, is_some, IsSome, option_and_then, if◌then◌else◌}
use Rattle.std.specs.Option.{option_map, option_or}
use Rattle.std.proofs.lemmas.Option.{slice_get_within}
use Rattle.image.specs.Texts.{word_at}
use Rattle.image.specs.Picture.{Picture}
use Rattle.layout.specs.declared.point.Point.{Point}
use Rattle.layout.specs.declared.point.Point.TheVariants.{Start}
use Rattle.layout.specs.Laid.{Laid, IsLaid, item_at, point_in}
use Rattle.layout.specs.Points.{Code, in_range, site_of, second_of, start_of, here_of, here_in, here_home, here_word, here_point, live_at}
use Rattle.layout.specs.Rows.{Near}
use Rattle.layout.specs.Alone.{alone, InRegion}
use Rattle.layout.specs.Tests.{point_alone}
use Rattle.layout.proofs.Places.{item_place}
use Rattle.layout.proofs.TextRows.{IsOutside}

unfoldable pub home_alone : Picture → Laid → ℕ → Option ℕ
home_alone p l a = if in_range p.region a then option_map (λ (q : Point). l.base) (point_in l a) else None

unfoldable pub word_alone : Picture → Laid → ℕ → Option ℕ
word_alone p l a = if in_range p.region a then item_at l.base l.words a else word_at p.texts a

abbrev pub plain : Picture → Laid → Code
plain p l = record {
  text = word_at p.texts;
  word = word_alone p l;
  point = point_alone p l;
  home = home_alone p l;
  site = λ x. option_and_then (start_of p) (site_of p x);
  second = λ x. option_and_then (start_of p) (second_of p x);
}

same_get : {X Y : Type 0} (xs : List X) (ys : List Y) (i : ℕ) → length xs ≡ length ys → is_some (slice_get xs i) ≡ is_some (slice_get ys i)
same_get [] [] i e = refl
same_get [] (y ∷ ys) i e = absurd (omega arith)
same_get (x ∷ xs) [] i e = absurd (omega arith)
same_get (x ∷ xs) (y ∷ ys) zero e = refl
same_get (x ∷ xs) (y ∷ ys) (suc i) e = same_get xs ys i (omega arith)

same_item : {X Y : Type 0} (base : ℕ) (xs : List X) (ys : List Y) (a : ℕ) → length xs ≡ length ys → is_some (item_at base xs a) ≡ is_some (item_at base ys a)
unfolding item_at
same_item base xs ys a e = by_test (nat_le base a && ((a - base) % 4 == 0))
  where
    by_test : (b : Bool) → is_some (if b then slice_get xs ((a - base) / 4) else None) ≡ is_some (if b then slice_get ys ((a - base) / 4) else None)
    by_test true = same_get xs ys ((a - base) / 4) e
    by_test false = refl

or_none : {X : Type 0} (o : Option X) → option_or o None ≡ o
or_none None = refl
or_none (Some x) = refl

here_words : (b : ℕ) (w : Option ℕ) (p : Option Point) → is_some p ≡ is_some w → option_map here_word (here_of b w p) ≡ w
here_words b None None e = refl
here_words b None (Some p) e = absurd (cc)
here_words b (Some w) None e = absurd (cc)
here_words b (Some w) (Some p) e = refl

here_points : (b : ℕ) (w : Option ℕ) (p : Option Point) → is_some p ≡ is_some w → option_map here_point (here_of b w p) ≡ p
here_points b None None e = refl
here_points b None (Some p) e = absurd (cc)
here_points b (Some w) None e = absurd (cc)
here_points b (Some w) (Some p) e = refl

here_homes : (b : ℕ) (w : Option ℕ) (p : Option Point) → is_some p ≡ is_some w → option_map here_home (here_of b w p) ≡ option_map (λ (q : Point). b) p
here_homes b None None e = refl
here_homes b None (Some p) e = absurd (cc)
here_homes b (Some w) None e = absurd (cc)
here_homes b (Some w) (Some p) e = refl

-- one layout is the first that has a word
one_live : (l : Laid) (a : ℕ) → live_at (l ∷ []) a ≡ here_of l.base (item_at l.base l.words a) (item_at l.base l.points a)
unfolding live_at here_in
one_live l a = or_none _

chosen : {X : Type 0} (b : Bool) (u v w : X) → u ≡ v → (if b then u else w) ≡ (if b then v else w)
chosen true u v w e = e
chosen false u v w e = refl

pub alone_plain : (p : Picture) (l : Laid) → IsLaid l → alone p l ≡ plain p l
unfolding point_alone home_alone word_alone
alone_plain p l k = λ i. record {
  text = word_at p.texts;
  word = λ a. word_is a i;
  point = λ a. point_is a i;
  home = λ a. home_is a i;
  site = λ x. option_and_then (start_of p) (site_of p x);
  second = λ x. option_and_then (start_of p) (second_of p x);
}
  where
    both : (a : ℕ) → is_some (item_at l.base l.points a) ≡ is_some (item_at l.base l.words a)
    both a = same_item l.base l.points l.words a k.each

    word_is : (a : ℕ) → (if in_range p.region a then option_map here_word (live_at (l ∷ []) a) else word_at p.texts a) ≡ (if in_range p.region a then item_at l.base l.words a else word_at p.texts a)
    word_is a = chosen (in_range p.region a) _ _ _ (ap (option_map here_word) (one_live l a) ∙ here_words l.base (item_at l.base l.words a) (item_at l.base l.points a) (both a))

    point_is : (a : ℕ) → (if in_range p.region a then option_map here_point (live_at (l ∷ []) a) else Some (Start a)) ≡ (if in_range p.region a then item_at l.base l.points a else Some (Start a))
    point_is a = chosen (in_range p.region a) _ _ _ (ap (option_map here_point) (one_live l a) ∙ here_points l.base (item_at l.base l.words a) (item_at l.base l.points a) (both a))

    home_is : (a : ℕ) → (if in_range p.region a then option_map here_home (live_at (l ∷ []) a) else None) ≡ (if in_range p.region a then option_map (λ (q : Point). l.base) (item_at l.base l.points a) else None)
    home_is a = chosen (in_range p.region a) _ _ _ (ap (option_map here_home) (one_live l a) ∙ here_homes l.base (item_at l.base l.words a) (item_at l.base l.points a) (both a))

pub plain_outside : (p : Picture) (l : Laid) → IsOutside p (plain p l)
unfolding point_alone home_alone
plain_outside p l = record { text = λ x. refl; point = λ y e. rw e refl; home = λ y e. rw e refl }

pub plain_word : (p : Picture) (l : Laid) (x : ℕ) → in_range p.region x ≡ false → (plain p l).word x ≡ word_at p.texts x
unfolding word_alone
plain_word p l x e = rw e refl

module _ (p : Picture) (l : Laid) (laid : IsLaid l) (within : InRegion p l.base (length l.words)) (a : ℕ) (q : Point) (at : point_in l a ≡ Some q) where
  pub here_within : in_range p.region a ≡ true
  here_within =
      let t = item_place l.base l.points a q at in
      let e = laid.each in
      let lt = slice_get_within l.points t.0 q t.2 in
      rw t.1 (within t.0 (omega (arith, e, lt)))

  pub here_point_is : (plain p l).point a ≡ Some q
  unfolding point_alone
  here_point_is = rw here_within at

  pub here_home_is : (plain p l).home a ≡ Some l.base
  unfolding home_alone
  here_home_is = rw (here_within, at) refl

  pub here_word_is : (plain p l).word a ≡ item_at l.base l.words a
  unfolding word_alone
  here_word_is = rw here_within refl

  -- there is no other layout
  pub near_all : (t : ℕ) → Near (plain p l) a t
  unfolding home_alone
  near_all t = by_home ((plain p l).home t) refl
    where
      is_base : (b : Bool) (o : Option Point) (h : ℕ) → (if b then option_map (λ (q : Point). l.base) o else None) ≡ Some h → h ≡ l.base
      is_base true None h e = absurd (cc)
      is_base true (Some u) h e = cc
      is_base false o h e = absurd (cc)

      base_of : (h : ℕ) → (plain p l).home t ≡ Some h → h ≡ l.base
      base_of h e = is_base (in_range p.region t) (point_in l t) h e

      by_home : (o : Option ℕ) → (plain p l).home t ≡ o → Near (plain p l) a t
      by_home None e = inl e
      by_home (Some h) e = inr (e ∙ ap Some (base_of h e) ∙ sym here_home_is)

-- a point of the region is one of the layout
pub point_back : (p : Picture) (l : Laid) (a : ℕ) (q : Point) → in_range p.region a ≡ true → (plain p l).point a ≡ Some q → point_in l a ≡ Some q
unfolding point_alone
point_back p l a q e h = rw e at h

-- an address outside the region is a Start of itself
pub point_outside : (p : Picture) (l : Laid) (a : ℕ) (q : Point) → in_range p.region a ≡ false → (plain p l).point a ≡ Some q → q ≡ Start a
unfolding point_alone
point_outside p l a q e h = let k = rw e at h in cc

-- the region's words alone have a home
pub home_back : (p : Picture) (l : Laid) (a : ℕ) → IsSome ((plain p l).home a) → in_range p.region a ≡ true
unfolding home_alone
home_back p l a h = by_test (in_range p.region a) refl h
  where
    by_test : (b : Bool) → in_range p.region a ≡ b → is_some (if b then option_map (λ (q : Point). l.base) (point_in l a) else None) ≡ true → in_range p.region a ≡ true
    by_test true e h = e
    by_test false e h = absurd (cc)
