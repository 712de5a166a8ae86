-- What a `FlatMem` stands for: words by their numbers, and spans of rights, of which the newest comes first.
use Rattle.std.specs.Prelude.{ℕ, ◌*◌, ◌-◌, ◌<◌, ◌≤◌, if◌then◌else◌, Bool, true, List, [], ◌∷◌, get_or}
use Rattle.finite.specs.Maps.{Table, Places, zeros, nowhere, fill, mark}
use Rattle.link_tags.specs.Values.{is_link}
use Rattle.guest_mem.specs.declared.words.Word.{Word}
use Rattle.guest_mem.specs.declared.words.Right.{Right}
use Rattle.guest_mem.specs.declared.words.Right.TheVariants.{Read, Write}
use Rattle.guest_mem.specs.declared.flat.Span.{Span}
use Rattle.guest_mem.specs.declared.flat.FlatMem.TheInside.{Inside}
use Rattle.guest_mem.specs.Memory.{Memory, number_of}
use Rattle.guest_mem.specs.Store.{Store}

-- the bytes of words
abbrev pub flat_bytes : List (ℕ × Word) → Table
flat_bytes [] = zeros
flat_bytes (e ∷ es) = fill (flat_bytes es) (8 * e.0) 8 (λ q. get_or e.1.bytes (q - 8 * e.0) 0)

-- the numbers of the words that pass a test
abbrev pub flat_words : (Word → Bool) → List (ℕ × Word) → Places
flat_words p [] = nowhere
flat_words p (e ∷ es) = mark (flat_words p es) e.0 1 (λ _. p e.1)

abbrev pub gives : Right → Span → Bool
gives Read s = s.read
gives Write s = s.write

-- the bytes with a right: the first span that covers a byte decides
abbrev pub flat_rights : (Span → Bool) → List Span → Places
flat_rights p [] = nowhere
flat_rights p (s ∷ ss) = mark (flat_rights p ss) s.from (s.to - s.from) (λ _. p s)

abbrev pub flat_memory : List (ℕ × Word) → List Span → Memory
flat_memory es ss = record {
  bytes = flat_bytes es;
  links = flat_words (λ x. is_link x.tag) es;
  readable = flat_rights (gives Read) ss;
  writable = flat_rights (gives Write) ss;
}

abbrev pub flat_store : Inside → Store
flat_store a = record {
  contents = flat_memory a.words.entries a.rights.items;
  room = flat_words (λ _. true) a.words.entries;
}

-- the words and spans lie below the end of guest addresses
abbrev pub AllLow : List (ℕ × Word) → Type 0
AllLow [] = Unit {0}
AllLow (e ∷ es) = (e.0 < 0x0200_0000) × AllLow es

abbrev pub AllEnd : List Span → Type 0
AllEnd [] = Unit {0}
AllEnd (s ∷ ss) = (s.to ≤ 0x1000_0000) × AllEnd ss

pub record IsFlat (a : Inside) : Type 0 where
  pub words : AllLow a.words.entries
  pub rights : AllEnd a.rights.items

-- the links among words, with their addresses and numbers
abbrev pub flat_links : List (ℕ × Word) → List (ℕ × ℕ)
flat_links [] = []
flat_links (e ∷ es) = if is_link e.1.tag then (8 * e.0, number_of e.1.bytes) ∷ flat_links es else flat_links es
