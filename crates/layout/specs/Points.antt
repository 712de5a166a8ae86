-- What an address of a program whose code has been moved stands for in the original one. Source: this project.
use Rattle.std.specs.Prelude.{◌≡◌, ℕ, ◌+◌, Bool, ◌==◌, ◌&&◌, nat_le, nat_lt, List, [], ◌∷◌, find, Option, Some, None, slice_get, if◌then◌else◌}
use Rattle.std.specs.Option.{option_map, option_and_then, option_or}
use Rattle.rv_isa.specs.Decoded.{decoded}
use Rattle.rv_isa.specs.declared.instr.Instr.{Instr}
use Rattle.oc_base.specs.declared.range.Range.{Range}
use Rattle.image.specs.declared.ranges.Aim.{Aim}
use Rattle.image.specs.Aims.{func_start, aim_place}
use Rattle.image.specs.Texts.{word_at}
use Rattle.image.specs.Picture.{Picture}
use Rattle.layout.specs.declared.point.Point.{Point}
use Rattle.layout.specs.declared.point.Point.TheVariants.{Start, Hop}
use Rattle.layout.specs.Laid.{Laid, item_at}

-- ---- calls of the original program
abbrev pub aim_func : Aim → ℕ
aim_func s = s.func

-- the number of the function that the site at an address calls
unfoldable pub site_of : Picture → ℕ → Option ℕ
site_of p x = option_map aim_func (find (λ s. aim_place s == x) p.sites)

-- by the address of a pair's second word, the number of the function that the pair calls
unfoldable pub second_of : Picture → ℕ → Option ℕ
second_of p x = option_map aim_func (find (λ s. aim_place s + 4 == x) p.pairs)

-- where the function of a number starts
unfoldable pub start_of : Picture → ℕ → Option ℕ
start_of p g = option_map func_start (slice_get p.funcs g)

-- ---- code as functions of an address: what the laws of moved code speak of
pub record Code : Type 0 where
  -- the words of the original program
  pub text : ℕ → Option ℕ
  -- the words now, of text and of the live layouts
  pub word : ℕ → Option ℕ
  -- what an address stands for
  pub point : ℕ → Option Point
  -- the live layout that has a word at an address, by its base
  pub home : ℕ → Option ℕ
  -- where the function starts that the site at an address of the original program calls
  pub site : ℕ → Option ℕ
  -- by the address of a pair's second word in the original program, where the function starts that the pair calls
  pub second : ℕ → Option ℕ

-- the instruction that the word at an address reads as
unfoldable pub read : (ℕ → Option ℕ) → ℕ → Option Instr
read words a = option_and_then decoded (words a)

-- whoever comes to a goes on as the original program does at x
pub data StandsFor (c : Code) (a x : ℕ) : Type 0 where
  at_start : c.point a ≡ Some (Start x) → StandsFor c a x
  at_hop : c.point a ≡ Some (Hop x) → StandsFor c a x

-- ---- live layouts
-- what a live layout has at an address
pub record Here : Type 0 where
  pub home : ℕ
  pub word : ℕ
  pub point : Point

abbrev pub here_home : Here → ℕ
here_home h = h.home

abbrev pub here_word : Here → ℕ
here_word h = h.word

abbrev pub here_point : Here → Point
here_point h = h.point

abbrev pub here_of : ℕ → Option ℕ → Option Point → Option Here
here_of base None p = None
here_of base (Some w) None = None
here_of base (Some w) (Some p) = Some (record { home = base; word = w; point = p })

unfoldable pub here_in : Laid → ℕ → Option Here
here_in l a = here_of l.base (item_at l.base l.words a) (item_at l.base l.points a)

-- of the first of the layouts that has a word there
unfoldable pub live_at : List Laid → ℕ → Option Here
live_at [] a = None
live_at (l ∷ ls) a = option_or (here_in l a) (live_at ls a)

abbrev pub in_range : Range → ℕ → Bool
in_range r a = nat_le r.from a && nat_lt a r.to

-- An address outside the region is a Start of itself, with the word now of the text. One in the region is what a live layout says.
abbrev pub word_now : Picture → (ℕ → Option ℕ) → List Laid → ℕ → Option ℕ
word_now p now lives a = if in_range p.region a then option_map here_word (live_at lives a) else now a

abbrev pub point_now : Picture → List Laid → ℕ → Option Point
point_now p lives a = if in_range p.region a then option_map here_point (live_at lives a) else Some (Start a)

abbrev pub home_now : Picture → List Laid → ℕ → Option ℕ
home_now p lives a = if in_range p.region a then option_map here_home (live_at lives a) else None

-- the code of an image whose text words now are these, with these live layouts
abbrev pub code_of : Picture → (ℕ → Option ℕ) → List Laid → Code
code_of p now lives = record {
  text = word_at p.texts;
  word = word_now p now lives;
  point = point_now p lives;
  home = home_now p lives;
  site = λ x. option_and_then (start_of p) (site_of p x);
  second = λ x. option_and_then (start_of p) (second_of p x);
}
