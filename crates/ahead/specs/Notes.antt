-- What a step outside the lock rests on, as a note of it, and where a note is compared with what stands now. Source: this project.
use Rattle.std.specs.Prelude.{ℕ, ◌==◌, not, Bool, true, false, List, [], ◌∷◌, find, Option, Some, None}
use Rattle.std.specs.List.{flat_map, list_any}
use Rattle.image.specs.Picture.{Picture, is_second}
use Rattle.image.specs.Texts.{covers}
use Rattle.layout.specs.declared.point.Point.{Point}
use Rattle.layout.specs.declared.point.Point.TheVariants.{Start, Hop, Mid}
use Rattle.layout.specs.Points.{Code}
use Rattle.link_tags.specs.declared.value.Tag.{Tag}
use Rattle.link_tags.specs.declared.value.Tag.TheVariants.{Plain, Link}
use Rattle.link_tags.specs.Values.{original}
use Rattle.sim_laws.specs.Origins.{origin, origin_of}
use Rattle.ahead.specs.declared.note.Aimed.{Aimed}
use Rattle.ahead.specs.declared.note.Note.{Note}

-- ---- what is compared is compared as numbers
abbrev pub yes_no : Bool → ℕ
yes_no false = 0
yes_no true = 1

abbrev pub tag_number : Tag → ℕ
tag_number Plain = 0
tag_number Link = 1

-- no word is no number of 32 bits
abbrev pub word_number : Option ℕ → ℕ
word_number None = 4294967296
word_number (Some w) = w

abbrev pub kind_number : Option Point → ℕ
kind_number (Some (Start x)) = 0
kind_number (Some (Hop x)) = 1
kind_number (Some (Mid x)) = 2
kind_number None = 3

-- the first two numbers that differ
abbrev pub first_apart : List (ℕ × ℕ) → Option (ℕ × ℕ)
first_apart pairs = find (λ c. not (c.0 == c.1)) pairs

-- ---- a note: what stands now, and what it says
-- where an indirect jump goes, by the code and the image now
abbrev pub aimed_at : Code → Aimed → ℕ
aimed_at c a = original (origin c) (record { number = a.to; tag = a.tag })

abbrev pub compared_aim : Picture → Code → Option Aimed → List (ℕ × ℕ)
compared_aim p c None = []
compared_aim p c (Some a) =
    (aimed_at c a, a.original)
    ∷ (yes_no (list_any (covers (aimed_at c a)) p.texts), yes_no a.in_text)
    ∷ (yes_no (is_second p.pairs (aimed_at c a)), yes_no a.is_second)
    ∷ []

abbrev pub compared_note : Picture → Code → Note → List (ℕ × ℕ)
compared_note p c n =
    (word_number (c.word n.at), n.word)
    ∷ (origin c n.at, origin_of n.at (Some n.point))
    ∷ (kind_number (c.point n.at), kind_number (Some n.point))
    ∷ compared_aim p c n.aim

abbrev pub compared_notes : Picture → Code → List Note → List (ℕ × ℕ)
compared_notes p c notes = flat_map (compared_note p c) notes
