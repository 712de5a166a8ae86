-- What follows where values are related: the numbers that a program sees are equal, and a code pointer is a whole word's address.
use Rattle.std.proofs.Common.{◌≡◌, ℕ, ◌%◌, ◌^◌, ◌<◌, Bool, true, false, refl, ap, arith}
use Rattle.std.specs.Prelude.{pos, nat_le, nat_lt, Some, IsSome}
use Rattle.std.proofs.lemmas.Bool.{and_parts, leb-true, ltb-true}
use Rattle.image.specs.Picture.{Picture, IsKept}
use Rattle.link_tags.specs.declared.value.Value.{Value}
use Rattle.link_tags.specs.Values.{plain, original}
use Rattle.hart.specs.Harts.{moved_by, even}
use Rattle.layout.specs.declared.point.Point.{Point}
use Rattle.layout.specs.declared.point.Point.TheVariants.{Start, Hop}
use Rattle.layout.specs.Points.{Code, StandsFor, at_start, at_hop, in_range}
use Rattle.sim_laws.specs.Origins.{origin, origin_of}
use Rattle.sim_laws.specs.Codes.{IsCodeOf}
use Rattle.sim_laws.specs.Related.{Lands, ValuesRelated, both_plain, both_links}

is_some_of : (c : Code) (a : ℕ) (q : Point) → c.point a ≡ Some q → IsSome (c.point a)
is_some_of c a q e = rw e refl

module _ (p : Picture) (c : Code) where
  pub origin_lands : {a x : ℕ} → StandsFor c a x → origin c a ≡ x
  unfolding origin
  origin_lands {a = a} (at_start e) = ap (origin_of a) e
  origin_lands {a = a} (at_hop e) = ap (origin_of a) e

  pub original_related : {v w : Value} → ValuesRelated p c v w → original (origin c) v ≡ original (λ a. a) w
  original_related (both_plain t u e) = rw (t, u) e
  original_related (both_links t u l) = rw (t, u) (origin_lands l.stands)

  pub plain_related : (n : ℕ) → ValuesRelated p c (plain n) (plain n)
  plain_related n = both_plain refl refl refl

  is_point : {a x : ℕ} → StandsFor c a x → IsSome (c.point a)
  is_point {a = a} {x = x} (at_start e) = is_some_of c a (Start x) e
  is_point {a = a} {x = x} (at_hop e) = is_some_of c a (Hop x) e

  -- outside the region a code pointer is its own
  own : IsCodeOf p c → {a x : ℕ} → StandsFor c a x → in_range p.region a ≡ false → a ≡ x
  own k {a = a} (at_start e) o = let s = k.point a o in cc
  own k {a = a} (at_hop e) o = let s = k.point a o in cc

  -- a code pointer is a number of 64 bits, and a whole word's
  fits_by : IsKept p → IsCodeOf p c → (a x : ℕ) → StandsFor c a x → x < 2 ^ 64 → (b : Bool) → in_range p.region a ≡ b → a < 2 ^ 64
  fits_by kept k a x s f false o = rw (own k s o) f
  fits_by kept k a x s f true i =
      let t = and_parts (nat_le p.region.from a) (nat_lt a p.region.to) i in
      let free = kept.region.free a (leb-true p.region.from a t.0) (ltb-true a p.region.to t.1) in
      omega (arith, free.high)

  pub pointer_fits : IsKept p → IsCodeOf p c → {a x : ℕ} → StandsFor c a x → x < 2 ^ 64 → a < 2 ^ 64
  pointer_fits kept k {a = a} {x = x} s f = fits_by kept k a x s f (in_range p.region a) refl

  whole_by : IsCodeOf p c → (a x : ℕ) → StandsFor c a x → x % 4 ≡ 0 → (b : Bool) → in_range p.region a ≡ b → a % 4 ≡ 0
  whole_by k a x s f false o = rw (own k s o) f
  whole_by k a x s f true i = k.whole a i (is_point s)

  pub pointer_whole : IsCodeOf p c → {a x : ℕ} → StandsFor c a x → x % 4 ≡ 0 → a % 4 ≡ 0
  pointer_whole k {a = a} {x = x} s f = whole_by k a x s f (in_range p.region a) refl

  pub lands_fits : IsKept p → IsCodeOf p c → {a x : ℕ} → Lands p c a x → a < 2 ^ 64
  lands_fits kept k l = pointer_fits kept k l.stands l.fits

  -- a jump by a link lands at the link itself
  pub jump_by_link : IsKept p → IsCodeOf p c → {a x : ℕ} → Lands p c a x → even (moved_by a (pos 0)) ≡ a
  jump_by_link kept k l = omega (arith, lands_fits kept k l, pointer_whole k l.stands l.whole)
