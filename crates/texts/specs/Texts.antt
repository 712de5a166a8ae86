-- Lines of a text, and numbers in decimal and hexadecimal digits.
use Rattle.std.specs.Prelude.{ℕ, ◌+◌, ◌-◌, ◌*◌, ◌^◌, Bool, ◌==◌, ◌&&◌, ◌||◌, nat_lt, nat_le, List, [], length, take, Option, Some, None, if◌then◌else◌}
use Rattle.std.specs.List.{slice_split, slice_index_or, list_all, fold}

-- the parts, without a last one that is empty
abbrev pub without_last_empty : List (List ℕ) → List (List ℕ)
without_last_empty parts = if length (slice_index_or parts (length parts - 1) []) == 0 then take (length parts - 1) parts else parts

-- each line ends with a newline (10), and the last may lack it
unfoldable pub lines_of : List ℕ → List (List ℕ)
lines_of bytes = without_last_empty (slice_split (λ b. b == 10) bytes)

-- the digits 0 to 9 are the bytes 48 to 57
abbrev pub is_digit : ℕ → Bool
is_digit c = nat_le 48 c && nat_le c 57

abbrev pub all_digits : List ℕ → Bool
all_digits ds = list_all is_digit ds

-- the number that digits write
abbrev pub value_of : List ℕ → ℕ
value_of ds = fold (λ n c. 10 * n + (c - 48)) 0 ds

-- the digits 0 to 9, A to F (the bytes 65 to 70) and a to f (97 to 102)
abbrev pub is_hex_digit : ℕ → Bool
is_hex_digit c = is_digit c || ((nat_le 65 c && nat_le c 70) || (nat_le 97 c && nat_le c 102))

abbrev pub hex_digit_value : ℕ → ℕ
hex_digit_value c = if nat_le c 57 then c - 48 else if nat_le c 70 then c - 55 else c - 87

-- the number that hexadecimal digits write
abbrev pub hex_value_of : List ℕ → ℕ
hex_value_of ds = fold (λ n c. 16 * n + hex_digit_value c) 0 ds

-- 1 to 10 digits of a number below 2 ^ 32
abbrev pub is_number : List ℕ → Bool
is_number ds = nat_lt 0 (length ds) && (nat_le (length ds) 10 && (all_digits ds && nat_lt (value_of ds) (2 ^ 32)))

unfoldable pub number_of : List ℕ → Option ℕ
number_of ds = if is_number ds then Some (value_of ds) else None
