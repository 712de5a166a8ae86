-- What holds of the code of an image, whatever its layouts are.
use Rattle.std.specs.Prelude.{◌≡◌, ℕ, ◌%◌, true, false, List, Some, None, IsSome}
use Rattle.std.specs.List.{All}
use Rattle.std.specs.Option.{option_and_then}
use Rattle.image.specs.Texts.{word_at}
use Rattle.image.specs.Picture.{Picture}
use Rattle.layout.specs.declared.point.Point.{Point}
use Rattle.layout.specs.declared.point.Point.TheVariants.{Start, Hop}
use Rattle.layout.specs.Laid.{Laid, IsLaid}
use Rattle.layout.specs.Points.{Code, site_of, second_of, start_of, in_range}

pub record IsCodeOf (p : Picture) (c : Code) : Type 0 where
  pub text : (x : ℕ) → c.text x ≡ word_at p.texts x
  pub site : (x : ℕ) → c.site x ≡ option_and_then (start_of p) (site_of p x)
  pub second : (x : ℕ) → c.second x ≡ option_and_then (start_of p) (second_of p x)
  -- outside the region an address is a Start of itself, and in no layout
  pub point : (a : ℕ) → in_range p.region a ≡ false → c.point a ≡ Some (Start a)
  pub home : (a : ℕ) → in_range p.region a ≡ false → c.home a ≡ None
  -- in the region what is a point is a whole word of a layout
  pub lives : (a : ℕ) → in_range p.region a ≡ true → IsSome (c.point a) → IsSome (c.home a)
  pub whole : (a : ℕ) → in_range p.region a ≡ true → IsSome (c.point a) → a % 4 ≡ 0
  -- and a Hop goes to a whole word: a branch that isn't taken may lead there, in place of one that traps
  pub hops : (a x : ℕ) → c.point a ≡ Some (Hop x) → x % 4 ≡ 0

-- what is a Hop goes to a whole word
abbrev pub GoesToWord : Point → Type 0
GoesToWord (Hop x) = x % 4 ≡ 0
GoesToWord _ = Unit {0}

-- the layouts are well formed, and each of their Hops goes to a whole word
pub record AreLive (lives : List Laid) : Type 0 where
  pub laid : All IsLaid lives
  pub hops : All (λ l. All GoesToWord l.points) lives
