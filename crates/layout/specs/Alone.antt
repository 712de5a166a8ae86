-- A layout over the original text, with no other layout.
use Rattle.std.specs.Prelude.{◌≡◌, ◌<◌, ◌+◌, ◌*◌, ◌↔◌, ℕ, true, List, [], ◌∷◌, length, Contains, Option, Some, None}
use Rattle.image.specs.declared.ranges.Aim.{Aim}
use Rattle.image.specs.Texts.{word_at}
use Rattle.image.specs.Picture.{Picture}
use Rattle.layout.specs.declared.point.Point.{Point}
use Rattle.layout.specs.declared.point.Point.TheVariants.{Start}
use Rattle.layout.specs.Laid.{Laid, point_in}
use Rattle.layout.specs.Points.{Code, site_of, second_of, in_range, code_of}
use Rattle.layout.specs.Rows.{Renders}

-- the code of the image with this layout alone
abbrev pub alone : Picture → Laid → Code
alone p l = code_of p (word_at p.texts) (l ∷ [])

-- each word of the layout lies in the region
abbrev pub InRegion : Picture → (base n : ℕ) → Type 0
InRegion p base n = (k : ℕ) → k < n → in_range p.region (base + 4 * k) ≡ true

-- what a table of calls of the original program has for what a word stands for: a Start stands for the original word, nothing else does
abbrev pub called_at : (ℕ → Option ℕ) → Option Point → Option ℕ
called_at calls (Some (Start x)) = calls x
called_at calls _ = None

-- the calls of a layout are exactly those of its words that are Starts of calls of the original program, each with its function
abbrev pub AreCallsOf : (ℕ → Option ℕ) → Laid → List Aim → Type 0
AreCallsOf calls l list = (a g : ℕ) → (called_at calls (point_in l a) ≡ Some g) ↔ Contains list (record { at = a; func = g })

pub record NamesCalls (p : Picture) (l : Laid) : Type 0 where
  pub sites : AreCallsOf (site_of p) l l.sites
  pub pairs : AreCallsOf (second_of p) l l.pairs

-- the layout, taken alone, lies in the region and renders the image, and its lists are those of its calls
pub record RendersAlone (p : Picture) (l : Laid) : Type 0 where
  pub within : InRegion p l.base (length l.words)
  pub renders : Renders (alone p l)
  pub calls : NamesCalls p l
