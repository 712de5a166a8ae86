-- Tagged memory as a value: what each byte is, which words are links, and which bytes may be read and written.
-- The word w has the 8 bytes from 8 * w. A byte that nothing was written to is zero.
use Rattle.std.specs.Prelude.{ℕ, ◌*◌, ◌/◌, ◌-◌, Bool, cond, List, map, get_or, replicate, refl}
use Rattle.std.specs.List.{range_with_len}
use Rattle.std.specs.Int.{w64, from_le_bytes, to_le_bytes}
use Rattle.std.specs.Coded.{Coded, code_by, coded×}
use Rattle.finite.specs.Maps.{Table, Places, at, contains, zeros, nowhere, fill, mark, table_code, places_code}
use Rattle.link_tags.specs.declared.value.Tag.{Tag}
use Rattle.link_tags.specs.declared.value.Tag.TheVariants.{Plain, Link}
use Rattle.link_tags.specs.Values.{is_link}
use Rattle.guest_mem.specs.declared.words.Word.{Word}
use Rattle.guest_mem.specs.declared.words.Right.{Right}
use Rattle.guest_mem.specs.declared.words.Right.TheVariants.{Read, Write}

pub record Memory : Type 0 where
  pub bytes : Table
  -- the words that are links
  pub links : Places
  pub readable : Places
  pub writable : Places

abbrev pub memory_code : Coded Memory
memory_code =
    code_by (Table × (Places × (Places × Places)))
    (coded× table_code (coded× places_code (coded× places_code places_code)))
    (λ m. (m.bytes, (m.links, (m.readable, m.writable))))
    (λ p. record { bytes = p.0; links = p.1.0; readable = p.1.1.0; writable = p.1.1.1 })
    (λ _. refl)

-- zero and Plain, without rights
abbrev pub blank : Memory
blank = record { bytes = zeros; links = nowhere; readable = nowhere; writable = nowhere }

abbrev pub byte_at : Memory → ℕ → ℕ
byte_at m a = at m.bytes a

-- the word that holds the byte a is a link
abbrev pub is_link_at : Memory → ℕ → Bool
is_link_at m a = contains m.links (a / 8)

-- the n bytes of f from a
unfoldable pub bytes_from : (ℕ → ℕ) → ℕ → ℕ → List ℕ
bytes_from f a n = map f (range_with_len a n)

-- bytes as a number, the lowest first, and back; a list past its end reads as zero
unfoldable pub number_of : List ℕ → ℕ
number_of bytes = from_le_bytes w64 bytes

unfoldable pub bytes_of : ℕ → List ℕ
bytes_of n = to_le_bytes w64 n

-- the number that the word of 8 bytes at a is
abbrev pub number_at : Memory → ℕ → ℕ
number_at m a = number_of (bytes_from (byte_at m) a 8)

abbrev pub tag_of : Bool → Tag
tag_of b = cond b Link Plain

-- a word as it stands
abbrev pub word_of : Memory → ℕ → Word
word_of m w = record { bytes = bytes_from (byte_at m) (8 * w) 8; tag = tag_of (contains m.links w) }

-- m with another word at w
abbrev pub with_word : Memory → ℕ → Word → Memory
with_word m w x = record m {
  bytes = fill m.bytes (8 * w) 8 (λ q. get_or x.bytes (q - 8 * w) 0);
  links = mark m.links w 1 (λ _. is_link x.tag);
}

-- a word that is zero and Plain
abbrev pub no_word : Word
no_word = record { bytes = replicate 8 0; tag = Plain }

-- the bytes with a right
abbrev pub with_right : Memory → Right → Places
with_right m Read = m.readable
with_right m Write = m.writable
