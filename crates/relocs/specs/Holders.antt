-- Segments by their last addresses.
use Rattle.std.specs.Prelude.{◌≡◌, ℕ, ◌+◌, ◌-◌, ◌<◌, Bool, ◌&&◌, nat_lt, List, get_or, Option, Some, None, if◌then◌else◌}
use Rattle.std.specs.Ordering.{nat_cmp}
use Rattle.std.specs.BTreeMap.{BTreeMap, get}
use Rattle.elf_read.specs.declared.elf.Segment.{Segment}
use Rattle.elf_read.specs.Whole.{segment_end}

-- two segments share an address
abbrev pub share : Segment → Segment → Bool
share g h = nat_lt g.at (segment_end h) && nat_lt h.at (segment_end g)

abbrev pub last_of : Segment → ℕ
last_of g = g.at + (g.memsize - 1)

-- the map leads from the last address of each of the first n segments to its place
pub record IsIndex (segments : List Segment) (n : ℕ) (places : BTreeMap ℕ ℕ) : Type 0 where
  pub each : (i : ℕ) (d : Segment) → i < n → get nat_cmp places (last_of (get_or segments i d)) ≡ Some i
  pub only : (last i : ℕ) → get nat_cmp places last ≡ Some i → (i < n) × ((d : Segment) → last ≡ last_of (get_or segments i d))

-- what is there, if it passes
abbrev pub if_passes : {X : Type 0} → (X → Bool) → Option X → Option X
if_passes p None = None
if_passes p (Some x) = if p x then Some x else None
