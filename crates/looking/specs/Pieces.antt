-- Addresses, ranges and names as they are shown. This project's own.
use Rattle.std.specs.Prelude.{ℕ, ◌/◌, ◌%◌, Bool, false, not, ◌==◌, ◌&&◌, nat_le, List, [], ◌∷◌, ◌++◌, codes, flat_map, if◌then◌else◌}
use Rattle.std.specs.Fmt.{digits}

abbrev pub address : ℕ → List ℕ
address a = codes "0x" ++ digits 16 false a

-- the addresses from a up to, but not with, b
abbrev pub range_text : (a b : ℕ) → List ℕ
range_text a b = address a ++ codes ".." ++ address b

-- a visible character of ASCII other than the backslash, 92
abbrev pub is_plain : ℕ → Bool
is_plain b = nat_le 33 b && (nat_le b 126 && not (b == 92))

-- any other byte is shown as \x and two digits, so that a name is one word of one line
abbrev pub byte_text : ℕ → List ℕ
byte_text b = if is_plain b then b ∷ [] else codes "\\x" ++ digits 16 false (b / 16) ++ digits 16 false (b % 16)

abbrev pub name_text : List ℕ → List ℕ
name_text name = flat_map byte_text name
