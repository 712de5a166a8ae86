-- What contracts see of a layout, and what each layout keeps.
use Rattle.std.specs.Prelude.{◌≡◌, ℕ, ◌+◌, ◌-◌, ◌*◌, ◌/◌, ◌%◌, ◌≤◌, ◌<◌, ◌==◌, ◌&&◌, nat_le, List, length, All, AllPairs, Option, None, IsSome, slice_get, slice_set, if◌then◌else◌}
use Rattle.image.specs.declared.ranges.Aim.{Aim}
use Rattle.layout.specs.declared.point.Point.{Point}

pub record Laid : Type 0 where
  pub base : ℕ
  pub words : List ℕ
  pub points : List Point
  pub sites : List Aim
  pub pairs : List Aim

-- what a list has for an address, if its elements stand at every fourth address from the base
unfoldable pub item_at : {X : Type 0} → ℕ → List X → ℕ → Option X
item_at base xs a = if nat_le base a && ((a - base) % 4 == 0) then slice_get xs ((a - base) / 4) else None

-- what the layout's word at an address stands for
abbrev pub point_in : Laid → ℕ → Option Point
point_in l a = item_at l.base l.points a

-- the calls of a layout stand at words of it
abbrev pub AreCalls : ℕ → List Point → List Aim → Type 0
AreCalls base points calls = All (λ s. IsSome (item_at base points s.at)) calls

pub record IsLaid (l : Laid) : Type 0 where
  pub whole : l.base % 4 ≡ 0
  pub high : l.base + 4 * length l.words ≤ 0x08000000
  pub each : length l.points ≡ length l.words
  pub sites_rise : AllPairs (λ s t. s.at < t.at) l.sites
  pub sites_within : AreCalls l.base l.points l.sites
  pub pairs_rise : AllPairs (λ s t. s.at < t.at) l.pairs
  pub pairs_within : AreCalls l.base l.points l.pairs

-- the layout with another word at an address
abbrev pub with_word : ℕ → ℕ → Laid → Laid
with_word a w l = record l { words = slice_set l.words ((a - l.base) / 4) w }
