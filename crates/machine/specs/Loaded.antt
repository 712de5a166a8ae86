-- What a program finds in memory before its first step, place by place.
use Rattle.std.specs.Prelude.{◌≡◌, ℕ, ◌-◌, ◌/◌, ◌%◌, ◌==◌, Bool, true, false, List, get_or, find, codes, if◌then◌else◌}
use Rattle.std.specs.List.{list_any}
use Rattle.std.specs.Option.{option_map_or}
use Rattle.finite.specs.Maps.{contains, within}
use Rattle.image.specs.declared.ranges.Part.{Part}
use Rattle.image.specs.Picture.{Picture}
use Rattle.image.specs.Aims.{covers_part}
use Rattle.guest_mem.specs.Memory.{Memory, byte_at, bytes_of}
use Rattle.machine.specs.Stack.{stack_start, stack_end, stack_pointer, name_at}
use Rattle.machine.specs.Start.{first_words}

abbrev pub is_stack : ℕ → Bool
is_stack a = within stack_start (stack_end - stack_start) a

-- a byte of the data part that covers it; past its bytes a part is zero
abbrev pub byte_of_part : ℕ → Part → ℕ
byte_of_part a p = get_or p.bytes (a - p.range.from) 0

-- a byte of words that stand from an address on
abbrev pub byte_of_words : ℕ → List ℕ → ℕ → ℕ
byte_of_words from words a = get_or (bytes_of (get_or words ((a - from) / 8) 0)) ((a - from) % 8) 0

-- a byte of the stack: of the words at x2, of the name, or zero
abbrev pub byte_of_stack : Picture → ℕ → ℕ
byte_of_stack image a =
    if within stack_pointer 128 a then byte_of_words stack_pointer (first_words image) a
    else (if within name_at 5 a then get_or (codes "guest") (a - name_at) 0 else 0)

pub record IsLoaded (image : Picture) (m : Memory) : Type 0 where
  pub bytes : (a : ℕ) → byte_at m a ≡ (if is_stack a then byte_of_stack image a else option_map_or (byte_of_part a) (find (covers_part a) image.parts) 0)
  pub readable : (a : ℕ) → contains m.readable a ≡ (if is_stack a then true else option_map_or (λ p. p.read) (find (covers_part a) image.parts) false)
  pub writable : (a : ℕ) → contains m.writable a ≡ (if is_stack a then true else option_map_or (λ p. p.write) (find (covers_part a) image.parts) false)
  -- the links are the words of the slots
  pub links : (w : ℕ) → contains m.links w ≡ list_any (λ s. w == s.at / 8) image.slots
