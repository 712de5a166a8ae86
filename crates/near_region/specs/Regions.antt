-- Which regions a JAL reaches from all of the text, and which one is the best.
-- Source: the RISC-V Unprivileged ISA, "Unconditional Jumps", for the distances; the rest is this project's own.
use Rattle.std.specs.Prelude.{◌≡◌, ℕ, ◌+◌, ◌-◌, ◌%◌, Bool, ◌&&◌, nat_le, ◌<◌, ◌≤◌, ◌⊎◌, pos, ◌-ℤ◌, List, Option, Some, None, IsSome}
use Rattle.oc_base.specs.declared.range.Range.{Range}
use Rattle.rv_isa.specs.Ranges.{IsOffJ}
use Rattle.image.specs.declared.ranges.TextRange.{TextRange}
use Rattle.image.specs.declared.ranges.Part.{Part}
use Rattle.image.specs.Texts.{text_end, word_at}
use Rattle.image.specs.Picture.{IsRegion}

-- a JAL at a can go to b, and one at b to a
abbrev pub AreNear : (a b : ℕ) → Type 0
AreNear a b = IsOffJ (pos b -ℤ pos a) × IsOffJ (pos a -ℤ pos b)

-- from each word of text a JAL can go to each word of the region, and back
abbrev pub IsNear : List TextRange → Range → Type 0
IsNear texts r = (a b : ℕ) → IsSome (word_at texts a) → r.from ≤ b → b < r.to → b % 4 ≡ 0 → AreNear a b

-- the same by ends: both ends of the text range are near to both of the region
abbrev pub is_beside : Range → TextRange → Bool
is_beside r t = nat_le r.to (t.from + 1048576) && nat_le (text_end t - 1048576) r.from

-- whole pages, at least one, that are free and near
pub record IsOpen (texts : List TextRange) (parts : List Part) (r : Range) : Type 0 where
  pub some : r.from < r.to
  pub region : IsRegion texts parts r
  pub near : IsNear texts r

-- r is larger than s, or as large and not after it
abbrev pub IsBetter : (r s : Range) → Type 0
IsBetter r s = (s.to - s.from < r.to - r.from) ⊎ ((s.to - s.from ≡ r.to - r.from) × (r.from ≤ s.from))

-- the largest open region, and of several the first; none where no region is open
abbrev pub IsBest : List TextRange → List Part → Option Range → Type 0
IsBest texts parts (Some r) = IsOpen texts parts r × ((s : Range) → IsOpen texts parts s → IsBetter r s)
IsBest texts parts None = (s : Range) → IsOpen texts parts s → ⊥
