-- Numbers as bytes, tables of strings, and parts of a file at their places.
use Rattle.std.specs.Prelude.{ℕ, ◌-◌, List, [], ◌∷◌, ◌++◌, length, replicate}
use Rattle.std.specs.List.{flat_map}
use Rattle.byteorder.specs.Endian.{little_bytes}

-- a number in so many bytes, little endian
unfoldable pub number : ℕ → ℕ → List ℕ
number size value = little_bytes size value

-- numbers one after another: of each its size in bytes and its value
abbrev pub fields : List (ℕ × ℕ) → List ℕ
fields [] = []
fields (field ∷ rest) = number field.0 field.1 ++ fields rest

-- a zero byte ends each string
abbrev pub ended : List ℕ → List ℕ
ended name = name ++ 0 ∷ []

-- the empty string, and then these
unfoldable pub string_table : List (List ℕ) → List ℕ
string_table names = 0 ∷ flat_map ended names

-- the file with one part more, at a place, and zeros before it
abbrev pub placed : List ℕ → ℕ → List ℕ → List ℕ
placed file at part = file ++ (replicate (at - length file) 0 ++ part)

-- the file with each of these parts at its place
unfoldable pub laid : List ℕ → List (ℕ × List ℕ) → List ℕ
laid file [] = file
laid file (part ∷ parts) = laid (placed file part.0 part.1) parts
