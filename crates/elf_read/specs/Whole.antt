-- What the parts of every file without a fault keep.
use Rattle.std.specs.Prelude.{ℕ, ◌+◌, ◌<◌, ◌≤◌, ◌⊎◌, length, All, AllPairs}
use Rattle.elf_read.specs.declared.elf.Elf.{Elf}
use Rattle.elf_read.specs.declared.elf.Segment.{Segment}

abbrev pub segment_end : Segment → ℕ
segment_end s = s.at + s.memsize

-- a segment of at least one byte within the guest's space, with no more bytes in the file than in memory
pub record IsSegment (s : Segment) : Type 0 where
  pub some : 0 < s.memsize
  pub low : 0x1000 ≤ s.at
  pub high : segment_end s ≤ 0x08000000
  pub filled : length s.bytes ≤ s.memsize

-- two segments share no address
abbrev pub AreApart : Segment → Segment → Type 0
AreApart s t = (segment_end s ≤ t.at) ⊎ (segment_end t ≤ s.at)

pub record IsWhole (elf : Elf) : Type 0 where
  pub each : All IsSegment elf.segments
  pub apart : AllPairs AreApart elf.segments
