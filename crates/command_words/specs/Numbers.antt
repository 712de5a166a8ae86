-- Numbers of a command line, and the region that two of them give.
use Rattle.std.specs.Prelude.{ℕ, ◌+◌, ◌%◌, Bool, ◌==◌, ◌&&◌, nat_lt, nat_le, List, length, drop, Option, Some, None, if◌then◌else◌}
use Rattle.std.specs.List.{list_all, before_first, after_first, slice_index_or}
use Rattle.texts.specs.Texts.{is_digit, value_of, is_hex_digit, hex_value_of}
use Rattle.oc_base.specs.declared.range.Range.{Range}

-- the bytes of a page
abbrev pub page : ℕ
page = 4096

-- the most bytes of a region
abbrev pub largest_region : ℕ
largest_region = 8388608

-- from 1 to `most` digits
abbrev pub is_short : (ℕ → Bool) → (most : ℕ) → List ℕ → Bool
is_short is_digit most digits = nat_lt 0 (length digits) && (nat_le (length digits) most && list_all is_digit digits)

-- the word begins with 0x
abbrev pub is_marked : List ℕ → Bool
is_marked word = nat_lt 1 (length word) && (slice_index_or word 0 0 == 48 && slice_index_or word 1 0 == 120)

unfoldable pub decimal_of : List ℕ → Option ℕ
decimal_of digits = if is_short is_digit 10 digits then Some (value_of digits) else None

unfoldable pub hex_of : List ℕ → Option ℕ
hex_of digits = if is_short is_hex_digit 8 digits then Some (hex_value_of digits) else None

-- the number that a word writes: 1 to 10 decimal digits, or 0x and 1 to 8 hexadecimal digits of either case
unfoldable pub number_of : List ℕ → Option ℕ
number_of word = if is_marked word then hex_of (drop 2 word) else decimal_of word

-- both are multiples of a page, and the size is from one page to the largest of a region
abbrev pub is_paged : (base size : ℕ) → Bool
is_paged base size = (base % page == 0) && ((size % page == 0) && (nat_le page size && nat_le size largest_region))

-- the region that begins at a base and has a size
unfoldable pub region_from : Option ℕ → Option ℕ → Option Range
region_from (Some base) (Some size) = if is_paged base size then Some (record { from = base; to = base + size }) else None
region_from _ _ = None

abbrev pub is_colon : ℕ → Bool
is_colon b = b == 58

-- the region that BASE:SIZE names, where the text is cut at its first colon; a text with no colon has no size
unfoldable pub region_of : List ℕ → Option Range
region_of text = region_from (number_of (before_first is_colon text)) (number_of (after_first is_colon text))
