-- The functions that words of text and of data aim at.
use Rattle.std.specs.Prelude.{ℕ, ◌+◌, ◌-◌, ◌%◌, Bool, not, ◌==◌, ◌&&◌, nat_le, nat_lt, List, drop, find, position, is_some, Option, None, option_and_then, if◌then◌else◌}
use Rattle.std.specs.Option.{option_map}
use Rattle.byteorder.specs.Endian.{little_number}
use Rattle.image.specs.declared.ranges.TextRange.{TextRange}
use Rattle.image.specs.declared.ranges.Part.{Part}
use Rattle.image.specs.declared.ranges.Func.{Func}
use Rattle.image.specs.declared.ranges.Aim.{Aim}
use Rattle.image.specs.Jumps.{jal_target, far_target}
use Rattle.image.specs.Texts.{word_at, word_after, is_target}

abbrev pub func_start : Func → ℕ
func_start f = f.from

abbrev pub aim_place : Aim → ℕ
aim_place s = s.at

abbrev pub part_start : Part → ℕ
part_start p = p.range.from

abbrev pub part_end : Part → ℕ
part_end p = p.range.to

-- the number of the function that starts at an address
unfoldable pub func_from : List Func → ℕ → Option ℕ
func_from funcs a = position (λ f. func_start f == a) funcs

abbrev pub is_inside : ℕ → Func → Bool
is_inside a f = nat_le f.from a && nat_lt a f.to

-- a site: the function that the word at an address calls by a JAL
unfoldable pub site_at : List TextRange → List Func → ℕ → Option ℕ
site_at texts funcs a = option_and_then (λ w. option_and_then (func_from funcs) (jal_target w a)) (word_at texts a)

-- an address that is reached by no jump that the image can see: no entry, no function's start, no target
unfoldable pub is_inner : List TextRange → List Func → ℕ → ℕ → Bool
is_inner texts funcs entry a = not (a == entry) && (not (is_some (func_from funcs a)) && not (is_target texts a))

-- the function that the word at an address and the one after it call by an AUIPC and a JALR
unfoldable pub far_call_at : List TextRange → List Func → ℕ → Option ℕ
far_call_at texts funcs a = option_and_then (λ v. option_and_then (λ w. option_and_then (func_from funcs) (far_target v w a)) (word_after texts a)) (word_at texts a)

-- a pair: such a call whose second word is reached from its first alone
unfoldable pub pair_at : List TextRange → List Func → ℕ → ℕ → Option ℕ
pair_at texts funcs entry a = if is_inner texts funcs entry (a + 4) then far_call_at texts funcs a else None

abbrev pub covers_part : ℕ → Part → Bool
covers_part a p = nat_le (part_start p) a && nat_lt a (part_end p)

-- all n bytes from an address on lie in the part
abbrev pub holds : ℕ → ℕ → Part → Bool
holds a n p = nat_le p.range.from a && nat_le (a + n) p.range.to

-- the 8 bytes of a part from an address on, as a number: past its bytes they are zero
unfoldable pub stored_in : ℕ → Part → ℕ
stored_in a p = little_number 8 (drop (a - p.range.from) p.bytes)

-- the number in the 8 bytes from an address on, if they lie in one part
unfoldable pub stored_at : List Part → ℕ → Option ℕ
stored_at parts a = option_map (stored_in a) (find (holds a 8) parts)

-- a slot: the function whose start is stored in the aligned 8 bytes at an address
unfoldable pub slot_at : List Part → List Func → ℕ → Option ℕ
slot_at parts funcs a = if a % 8 == 0 then option_and_then (func_from funcs) (stored_at parts a) else None
