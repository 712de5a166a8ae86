-- The text sections of an executable, and what can be wrong with them.
use Rattle.std.specs.Prelude.{ℕ, ◌+◌, ◌%◌, Bool, false, not, ◌==◌, ◌&&◌, ◌||◌, nat_le, nat_lt, bit_and, List, length, take, filter, find, Option}
use Rattle.std.specs.List.{list_any, range_with_len, slice_get}
use Rattle.std.specs.Option.{option_map, option_map_or}
use Rattle.elf_read.specs.declared.elf.Elf.{Elf}
use Rattle.elf_read.specs.declared.elf.Section.{Section}
use Rattle.elf_read.specs.declared.elf.Segment.{Segment}

-- type 1, flags with 2 (alloc) and 4 (execinstr), of at least one byte
abbrev pub is_text : Section → Bool
is_text s = s.kind == 1 && (not (bit_and s.flags 2 == 0) && (not (bit_and s.flags 4 == 0) && nat_lt 0 s.size))

-- in the order of the file
unfoldable pub text_sections : Elf → List Section
text_sections elf = filter is_text elf.sections

abbrev pub section_start : Section → ℕ
section_start s = s.at

abbrev pub section_end : Section → ℕ
section_end s = s.at + s.size

-- the end of what the file has of a segment
abbrev pub file_end : Segment → ℕ
file_end g = g.at + length g.bytes

-- the file has all bytes of a range of addresses in this segment
abbrev pub has_bytes : ℕ → ℕ → Segment → Bool
has_bytes from to g = nat_le g.at from && nat_le to (file_end g)

abbrev pub overlap : Section → Section → Bool
overlap s t = nat_lt s.at (section_end t) && nat_lt t.at (section_end s)

abbrev pub is_misaligned : Section → Bool
is_misaligned s = not (s.at % 4 == 0) || not (s.size % 4 == 0)

-- the address of the first text section that isn't made of whole words
unfoldable pub first_misaligned : List Section → Option ℕ
first_misaligned texts = option_map section_start (find is_misaligned texts)

-- a text section that no segment's file part holds, or that shares an address with an earlier one
abbrev pub is_outside : List Segment → List Section → Section → Bool
is_outside segments earlier s = not (list_any (has_bytes s.at (section_end s)) segments) || list_any (overlap s) earlier

abbrev pub is_outside_at : List Segment → List Section → ℕ → Bool
is_outside_at segments texts i = option_map_or (is_outside segments (take i texts)) (slice_get texts i) false

abbrev pub start_at : List Section → ℕ → ℕ
start_at texts i = option_map_or section_start (slice_get texts i) 0

-- the address of the first of them
unfoldable pub first_outside : List Segment → List Section → Option ℕ
first_outside segments texts = option_map (start_at texts) (find (is_outside_at segments texts) (range_with_len 0 (length texts)))

abbrev pub covers : ℕ → Section → Bool
covers a s = nat_le s.at a && nat_lt a (section_end s)

-- the entry is no word of text
abbrev pub is_entry_outside : List Section → ℕ → Bool
is_entry_outside texts entry = not (entry % 4 == 0 && list_any (covers entry) texts)
