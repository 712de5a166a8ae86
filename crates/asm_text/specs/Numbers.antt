-- Numbers as operands write them.
use Rattle.std.specs.Prelude.{ℕ, ◌^◌, ℤ, pos, neg_ℤ, ◌==◌, ◌&&◌, nat_lt, min, List, length, drop, Option, Some, None, if◌then◌else◌}
use Rattle.std.specs.List.{list_all}
use Rattle.std.specs.Option.{option_map}
use Rattle.texts.specs.Texts.{all_digits, value_of, is_hex_digit, hex_value_of}
use Rattle.asm_text.specs.Tokens.{byte_at}

-- A number past all bounds counts as 2 ^ 65.
abbrev pub capped : ℕ → ℕ
capped n = min n (2 ^ 65)

unfoldable pub decimal_of : List ℕ → Option ℕ
decimal_of ds = if nat_lt 0 (length ds) && all_digits ds then Some (capped (value_of ds)) else None

unfoldable pub hex_of : List ℕ → Option ℕ
hex_of ds = if nat_lt 0 (length ds) && list_all is_hex_digit ds then Some (capped (hex_value_of ds)) else None

-- a decimal number, - and a decimal number, or 0x and a hexadecimal number
unfoldable pub number_of : List ℕ → Option ℤ
number_of word =
    if byte_at word 0 == 45 then option_map (λ n. neg_ℤ (pos n)) (decimal_of (drop 1 word))
    else if byte_at word 0 == 48 && byte_at word 1 == 120 then option_map (λ n. pos n) (hex_of (drop 2 word))
    else option_map (λ n. pos n) (decimal_of word)
