-- The state before the first step. Source: this project for the address map; the System V ABI for the form of the words at x2.
use Rattle.std.specs.Prelude.{ℕ, ◌+◌, ◌-◌, ◌/◌, nat_lt, true, List, [], ◌∷◌, length, get_or, map, max, replicate, None, codes, if◌then◌else◌}
use Rattle.std.specs.List.{slice_set}
use Rattle.finite.specs.Maps.{mark}
use Rattle.oc_base.specs.declared.range.Range.{Range}
use Rattle.image.specs.declared.ranges.Part.{Part}
use Rattle.image.specs.declared.ranges.Aim.{Aim}
use Rattle.image.specs.Picture.{Picture}
use Rattle.image.specs.Texts.{text_end}
use Rattle.image.specs.Aims.{part_end}
use Rattle.link_tags.specs.declared.value.Tag.TheVariants.{Plain}
use Rattle.link_tags.specs.Values.{plain}
use Rattle.guest_mem.specs.Memory.{Memory, blank, bytes_of, with_word}
use Rattle.guest_mem.specs.Access.{put, mapped}
use Rattle.hart.specs.declared.hart.Hart.{Hart}
use Rattle.hart.specs.declared.hart.Status.TheVariants.{Live}
use Rattle.machine.specs.Stack.{stack_start, stack_end, stack_pointer, name_at}
use Rattle.guest_sys.specs.State.{pages, fresh}
use Rattle.machine.specs.States.{State}

-- these bytes from an address on
abbrev pub with_bytes : Memory → ℕ → List ℕ → Memory
with_bytes m at bytes = put (λ n. n) m at (length bytes) (λ q. get_or bytes (q - at) 0)

-- ---- the data of the program
-- a data part is mapped with its rights; past its bytes it is zero
abbrev pub with_part : Part → Memory → Memory
with_part p m = with_bytes (mapped m p.range.from (p.range.to - p.range.from) p.read p.write) p.range.from p.bytes

abbrev pub with_parts : List Part → Memory → Memory
with_parts [] m = m
with_parts (p ∷ ps) m = with_parts ps (with_part p m)

-- a slot is a link, with the number that stands there: its function's start
abbrev pub with_slot : Aim → Memory → Memory
with_slot s m = record m { links = mark m.links (s.at / 8) 1 (λ _. true) }

abbrev pub with_slots : List Aim → Memory → Memory
with_slots [] m = m
with_slots (s ∷ ss) m = with_slots ss (with_slot s m)

-- ---- the stack
-- words of 8 bytes from an address on
abbrev pub with_words : ℕ → List ℕ → Memory → Memory
with_words at [] m = m
with_words at (n ∷ ns) m = with_words (at + 8) ns (with_word m (at / 8) (record { bytes = bytes_of n; tag = Plain }))

-- what x2 points to: one argument, which is the program's name; no variables; and by their keys the address of the program
-- headers, their size and their number, the size of a page, and the entry
abbrev pub first_words : Picture → List ℕ
first_words image =
    1 ∷ name_at ∷ 0 ∷ 0 ∷ 3 ∷ image.headers.0 ∷ 4 ∷ 56 ∷ 5 ∷ image.headers.1 ∷ 6 ∷ 4096 ∷ 9 ∷ image.entry ∷ 0 ∷ 0 ∷ []

-- the stack may be read and written, and is zero but for the name and these words
abbrev pub with_stack : Picture → Memory → Memory
with_stack image m =
    with_words stack_pointer (first_words image)
    (with_bytes (mapped m stack_start (stack_end - stack_start) true true) name_at (codes "guest"))

unfoldable pub start_memory : Picture → Memory
start_memory image = with_slots image.slots (with_stack image (with_parts image.parts blank))

-- ---- the hart
-- each register is zero and Plain, but for x2
abbrev pub start_hart : Picture → Hart
start_hart image = record {
  regs = slice_set (replicate 32 (plain 0)) 2 (plain stack_pointer);
  pc = image.entry;
  reservation = None;
  status = Live;
  clear = 0;
}

-- ---- the system
abbrev pub highest : List ℕ → ℕ
highest [] = 0
highest (n ∷ ns) = max n (highest ns)

-- where a range ends, if it has an address
abbrev pub end_of : Range → ℕ
end_of r = if nat_lt r.from r.to then r.to else 0

-- the break starts with the page behind the text, the data and the region
abbrev pub break_of : Picture → ℕ
break_of image = pages (max (max (end_of image.region) (highest (map text_end image.texts))) (highest (map part_end image.parts)))

-- one hart, which has made no call
unfoldable pub start_of : Picture → (input : List ℕ) → State
start_of image input = record {
  harts = start_hart image ∷ [];
  memory = start_memory image;
  system = fresh input (break_of image);
  outcome = None;
}
