-- The faults of an executable and a region, in their order, and the image of one without a fault.
use Rattle.std.specs.Prelude.{◌≡◌, ℕ, ◌+◌, ◌-◌, ◌*◌, ◌/◌, ◌<◌, Bool, false, not, ◌==◌, ◌&&◌, nat_le, nat_lt, bit_and, List, [], ◌∷◌, ◌++◌, length, map, take, drop, find, AllPairs, Option, None, if◌then◌else◌}
use Rattle.std.specs.List.{flat_map}
use Rattle.std.specs.List.Sorted.{IsPermutation}
use Rattle.std.specs.Option.{option_map, option_map_or}
use Rattle.oc_base.specs.declared.range.Range.{Range}
use Rattle.finite.specs.First.{first_of, when}
use Rattle.finite.specs.Lists.{Lists}
use Rattle.elf_read.specs.declared.elf.Elf.{Elf}
use Rattle.elf_read.specs.declared.elf.Section.{Section}
use Rattle.elf_read.specs.declared.elf.Segment.{Segment}
use Rattle.elf_read.specs.Fields.{u32_at}
use Rattle.elf_read.specs.Tables.{table}
use Rattle.elf_read.specs.Whole.{segment_end}
use Rattle.image.specs.declared.ranges.TextRange.{TextRange}
use Rattle.image.specs.declared.ranges.Part.{Part}
use Rattle.image.specs.Texts.{text_start, text_end}
use Rattle.image.specs.Aims.{part_start, site_at, pair_at, slot_at}
use Rattle.image.specs.Picture.{Picture}
use Rattle.relocs.specs.declared.fault.ImageFault.{ImageFault}
use Rattle.relocs.specs.declared.fault.ImageFault.TheVariants.{TextMisaligned, TextOutside, EntryOutside, RegionOverlap, RegionAimed}
use Rattle.relocs.specs.Sections.{text_sections, has_bytes, first_misaligned, first_outside, is_entry_outside}
use Rattle.relocs.specs.Regions.{first_taken, least_aimed}
use Rattle.relocs.specs.Functions.{end_at, func_entry}
use Rattle.relocs.specs.Named.{aim_at, aim_entry, is_call, is_far, is_stored}

-- ---- text

-- the words of a range of addresses that one segment's file part holds
unfoldable pub words_at : List Segment → ℕ → ℕ → List ℕ
words_at segments at size = option_map_or (λ g. table 4 u32_at g.bytes (at - g.at) (size / 4)) (find (has_bytes at (at + size)) segments) []

unfoldable pub text_of : List Segment → Section → TextRange
text_of segments s = record { from = s.at; words = words_at segments s.at s.size }

-- the text ranges, in the order of the file
unfoldable pub texts_of : Elf → List TextRange
texts_of elf = map (text_of elf.segments) (text_sections elf)

-- ---- faults

-- the first fault, in the order of this list
unfoldable pub fault_of : Elf → Range → Option ImageFault
fault_of elf region =
    let texts = text_sections elf in
    first_of (
    option_map TextMisaligned (first_misaligned texts)
    ∷ option_map TextOutside (first_outside elf.segments texts)
    ∷ when (is_entry_outside texts elf.entry) (EntryOutside elf.entry)
    ∷ option_map RegionOverlap (first_taken elf.segments texts region)
    ∷ option_map RegionAimed (least_aimed (texts_of elf) region)
    ∷ [])

-- ---- parts

abbrev pub piece : ℕ → ℕ → List (ℕ × ℕ)
piece a b = if nat_lt a b then (a, b) ∷ [] else []

abbrev pub is_within : ℕ → ℕ → TextRange → Bool
is_within a to t = nat_le a t.from && nat_le (text_end t) to

-- the pieces from a up to `to` that lie outside the text ranges, which ascend
abbrev pub gaps : ℕ → ℕ → List TextRange → List (ℕ × ℕ)
gaps a to [] = piece a to
gaps a to (t ∷ ts) = if is_within a to t then piece a t.from ++ gaps (text_end t) to ts else gaps a to ts

-- a piece of a segment: its flag 4 says readable and 2 writable
unfoldable pub part_of : Segment → ℕ × ℕ → Part
part_of g r = record { range = record { from = r.0; to = r.1 }; read = not (bit_and g.flags 4 == 0); write = not (bit_and g.flags 2 == 0); bytes = take (r.1 - r.0) (drop (r.0 - g.at) g.bytes) }

-- a segment without its text ranges
unfoldable pub parts_in : List TextRange → Segment → List Part
parts_in texts g = map (part_of g) (gaps g.at (segment_end g) texts)

unfoldable pub parts_of : Elf → List TextRange → List Part
parts_of elf texts = flat_map (parts_in texts) elf.segments

-- ---- program headers

-- the segment's file part holds all program headers
abbrev pub has_headers : Elf → Segment → Bool
has_headers elf g = nat_le g.offset elf.phoff && nat_le (elf.phoff + 56 * elf.phnum) (g.offset + length g.bytes)

-- their address and their number, both 0 where no segment holds them
unfoldable pub headers_of : Elf → ℕ × ℕ
headers_of elf = option_map_or (λ g. (g.at + (elf.phoff - g.offset), elf.phnum)) (find (has_headers elf) elf.segments) (0, 0)

-- ---- the whole

-- ys are the elements of xs, their keys ascending
pub record IsInOrder {X : Type 0} (key : X → ℕ) (xs ys : List X) : Type 0 where
  pub same : IsPermutation xs ys
  pub rise : AllPairs (λ x y. key x < key y) ys

pub record IsImage (elf : Elf) (r : Range) (p : Picture) : Type 0 where
  pub texts : IsInOrder text_start (texts_of elf) p.texts
  pub parts : IsInOrder part_start (parts_of elf p.texts) p.parts
  pub entry : p.entry ≡ elf.entry
  pub region : p.region ≡ r
  pub funcs : Lists (end_at p.texts elf.symbols) (map func_entry p.funcs)
  pub sites : Lists (aim_at is_call (site_at p.texts p.funcs) elf.relocs) (map aim_entry p.sites)
  pub pairs : Lists (aim_at is_far (pair_at p.texts p.funcs p.entry) elf.relocs) (map aim_entry p.pairs)
  pub slots : Lists (aim_at (is_stored elf.symbols p.parts) (slot_at p.parts p.funcs) elf.relocs) (map aim_entry p.slots)
  pub headers : p.headers ≡ headers_of elf

-- no fault stands
pub record IsFaultless (elf : Elf) (r : Range) : Type 0 where
  pub aligned : first_misaligned (text_sections elf) ≡ None
  pub inside : first_outside elf.segments (text_sections elf) ≡ None
  pub entered : is_entry_outside (text_sections elf) elf.entry ≡ false
  pub free : first_taken elf.segments (text_sections elf) r ≡ None
  pub unaimed : least_aimed (texts_of elf) r ≡ None
