-- Text ranges and the words in them.
use Rattle.std.specs.Prelude.{ℕ, ◌+◌, ◌*◌, ◌-◌, ◌/◌, ◌%◌, Bool, ◌&&◌, ◌==◌, nat_le, nat_lt, List, [], ◌∷◌, length, find, Option, None, option_and_then, if◌then◌else◌}
use Rattle.std.specs.List.{flat_map, filter_map, list_any, slice_get}
use Rattle.image.specs.declared.ranges.TextRange.{TextRange}
use Rattle.image.specs.Jumps.{direct_target}

abbrev pub text_start : TextRange → ℕ
text_start t = t.from

abbrev pub text_end : TextRange → ℕ
text_end t = t.from + 4 * length t.words

abbrev pub covers : ℕ → TextRange → Bool
covers a t = nat_le (text_start t) a && nat_lt a (text_end t)

-- the text range that covers an address
abbrev pub text_at : List TextRange → ℕ → Option TextRange
text_at texts a = find (covers a) texts

-- the word that stands at an address of a text range
unfoldable pub word_in : ℕ → TextRange → Option ℕ
word_in a t = if (a - t.from) % 4 == 0 then slice_get t.words ((a - t.from) / 4) else None

-- the word of text at an address
unfoldable pub word_at : List TextRange → ℕ → Option ℕ
word_at texts a = option_and_then (word_in a) (text_at texts a)

-- the word after the one at an address, in the same text range
unfoldable pub word_after : List TextRange → ℕ → Option ℕ
word_after texts a = option_and_then (word_in (a + 4)) (text_at texts a)

-- each word with its address, from an address on
abbrev pub words_from : ℕ → List ℕ → List (ℕ × ℕ)
words_from a [] = []
words_from a (w ∷ ws) = (a, w) ∷ words_from (a + 4) ws

abbrev pub text_words : TextRange → List (ℕ × ℕ)
text_words t = words_from t.from t.words

abbrev pub aim_of : ℕ × ℕ → Option ℕ
aim_of e = direct_target e.1 e.0

-- where the JALs and branches of text go, in their order
unfoldable pub targets : List TextRange → List ℕ
targets texts = filter_map aim_of (flat_map text_words texts)

-- some JAL or branch of text goes to an address
unfoldable pub is_target : List TextRange → ℕ → Bool
is_target texts a = list_any (λ t. t == a) (targets texts)
