-- The words of text as they are now.
use Rattle.std.specs.Prelude.{◌≡◌, ℕ, ◌-◌, ◌/◌, ◌≤◌, List, [], ◌∷◌, length, map, slice_set, All, AllPairs, if◌then◌else◌}
use Rattle.image.specs.declared.ranges.TextRange.{TextRange}
use Rattle.image.specs.Texts.{covers, text_end}
use Rattle.image.specs.Picture.{Picture, IsText}

-- where a range is
abbrev pub text_span : TextRange → ℕ × ℕ
text_span t = (t.from, length t.words)

-- the words of the image's text ranges, whatever they are now
abbrev pub IsTextOf : Picture → List TextRange → Type 0
IsTextOf p now = map text_span now ≡ map text_span p.texts

abbrev pub range_with : ℕ → ℕ → TextRange → TextRange
range_with a w t = record t { words = slice_set t.words ((a - t.from) / 4) w }

-- the text with another word at an address
abbrev pub text_with : ℕ → ℕ → List TextRange → List TextRange
text_with a w [] = []
text_with a w (t ∷ ts) = if covers a t then range_with a w t ∷ ts else t ∷ text_with a w ts

-- whole words in the guest's space, ascending
pub record AreTexts (texts : List TextRange) : Type 0 where
  pub fit : All IsText texts
  pub rise : AllPairs (λ s t. text_end s ≤ t.from) texts
