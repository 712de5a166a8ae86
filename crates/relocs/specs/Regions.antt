-- The region, and what can be wrong with it.
use Rattle.std.specs.Prelude.{◌≡◌, ◌≤◌, ◌<◌, ◌^◌, ◌++◌, ◌∷◌, [], true, ℕ, ◌+◌, ◌-◌, ◌*◌, ◌/◌, Bool, false, ◌&&◌, ◌||◌, nat_le, nat_lt, min, max, List, map, filter, find, Option, Some, None}
use Rattle.std.specs.List.{list_any, range_with_len, fold, flat_map, reduce}
use Rattle.std.specs.Option.{option_map_or}
use Rattle.oc_base.specs.declared.range.Range.{Range}
use Rattle.elf_read.specs.declared.elf.Elf.{Elf}
use Rattle.elf_read.specs.declared.elf.Section.{Section}
use Rattle.elf_read.specs.declared.elf.Segment.{Segment}
use Rattle.elf_read.specs.Whole.{segment_end}
use Rattle.image.specs.declared.ranges.TextRange.{TextRange}
use Rattle.image.specs.Jumps.{direct_target}
use Rattle.image.specs.Texts.{text_words}
use Rattle.relocs.specs.Sections.{section_end}

-- the highest end of a segment
unfoldable pub highest_end : List Segment → ℕ
highest_end segments = fold max 0 (map segment_end segments)

-- n at a multiple of 4096, or the next one
abbrev pub rounded_up : ℕ → ℕ
rounded_up n = (n + 4095) / 4096 * 4096

-- 524288 bytes from 4096 past the highest end, which is rounded up first
unfoldable pub default_region : List Segment → Range
default_region segments = record { from = rounded_up (highest_end segments) + 4096; to = rounded_up (highest_end segments) + 4096 + 524288 }

-- the region that is given, or else the default
abbrev pub region_of : Elf → Option Range → Range
region_of elf None = default_region elf.segments
region_of elf (Some region) = region

abbrev pub is_between : ℕ → ℕ → ℕ → Bool
is_between from to a = nat_le from a && nat_lt a to

abbrev pub in_segment : ℕ → Segment → Bool
in_segment a g = is_between g.at (segment_end g) a

abbrev pub follows : ℕ → Section → Bool
follows a s = is_between (section_end s) (section_end s + 4) a

-- an address in a segment, in the 4 bytes after a text section, or outside the guest's space
abbrev pub is_taken : List Segment → List Section → ℕ → Bool
is_taken segments texts a = list_any (in_segment a) segments || (list_any (follows a) texts || (nat_lt a 0x1000 || nat_le 0x08000000 a))

-- the least address of the region that is taken
unfoldable pub first_taken : List Segment → List Section → Range → Option ℕ
first_taken segments texts region = find (is_taken segments texts) (range_with_len region.from (region.to - region.from))

-- the word at this address goes into the region
abbrev pub is_aimed : Range → ℕ × ℕ → Bool
is_aimed region e = option_map_or (is_between region.from region.to) (direct_target e.1 e.0) false

abbrev pub address_of : ℕ × ℕ → ℕ
address_of e = e.0

-- the least address of the words that go into the region
unfoldable pub least_of : Range → List (ℕ × ℕ) → Option ℕ
least_of region words = reduce min (map address_of (filter (is_aimed region) words))

-- the least address of a JAL or branch of text that goes into the region
unfoldable pub least_aimed : List TextRange → Range → Option ℕ
least_aimed texts region = least_of region (flat_map text_words texts)

-- ---- the same by ranges

abbrev pub segment_range : Segment → Range
segment_range g = record { from = g.at; to = segment_end g }

abbrev pub after_section : Section → Range
after_section s = record { from = section_end s; to = section_end s + 4 }

-- the ranges of taken addresses below the last of 64 bits
unfoldable pub taken_ranges : List Segment → List Section → List Range
taken_ranges segments texts = ((map segment_range segments ++ map after_section texts) ++ record { from = 0; to = 0x1000 } ∷ []) ++ record { from = 0x08000000; to = 2 ^ 64 - 1 } ∷ []

abbrev pub in_range : ℕ → Range → Bool
in_range a r = is_between r.from r.to a

-- an address of the region in one of the ranges
abbrev pub Shares : List Range → Range → ℕ → Type 0
Shares ranges region a = (region.from ≤ a) × (a < region.to) × (list_any (in_range a) ranges ≡ true)

-- the lesser of two, where there are any
abbrev pub lesser : Option ℕ → Option ℕ → Option ℕ
lesser None o = o
lesser (Some a) None = Some a
lesser (Some a) (Some b) = Some (min a b)
