-- What contracts see of an image, and what each image keeps.
use Rattle.std.specs.Prelude.{◌≡◌, ℕ, ◌+◌, ◌%◌, ◌^◌, ◌<◌, ◌≤◌, ◌⊎◌, Bool, ◌==◌, List, length, All, AllPairs, Some, IsSome}
use Rattle.std.specs.List.{Any, list_any}
use Rattle.oc_base.specs.declared.range.Range.{Range}
use Rattle.image.specs.declared.ranges.TextRange.{TextRange}
use Rattle.image.specs.declared.ranges.Part.{Part}
use Rattle.image.specs.declared.ranges.Func.{Func}
use Rattle.image.specs.declared.ranges.Aim.{Aim}
use Rattle.image.specs.Texts.{text_end, word_at, targets}
use Rattle.image.specs.Aims.{site_at, pair_at, slot_at}

pub record Picture : Type 0 where
  pub texts : List TextRange
  pub parts : List Part
  pub entry : ℕ
  pub region : Range
  pub funcs : List Func
  pub sites : List Aim
  pub pairs : List Aim
  pub slots : List Aim
  pub headers : ℕ × ℕ

-- whole words in the guest's space
pub record IsText (t : TextRange) : Type 0 where
  pub some : t.from < text_end t
  pub whole : t.from % 4 ≡ 0
  pub low : 0x1000 ≤ t.from
  pub high : text_end t ≤ 0x08000000

-- bytes in the guest's space
pub record IsPart (p : Part) : Type 0 where
  pub some : p.range.from < p.range.to
  pub low : 0x1000 ≤ p.range.from
  pub high : p.range.to ≤ 0x08000000
  pub filled : p.range.from + length p.bytes ≤ p.range.to

-- a part and a text range share no address
abbrev pub LiesApart : Part → TextRange → Type 0
LiesApart p t = (p.range.to ≤ t.from) ⊎ (text_end t ≤ p.range.from)

-- whole words of one text range
pub record IsFunc (texts : List TextRange) (f : Func) : Type 0 where
  pub some : f.from < f.to
  pub whole : f.from % 4 ≡ 0
  pub even : f.to % 4 ≡ 0
  pub inside : Any (λ t. (t.from ≤ f.from) × (f.to ≤ text_end t)) texts

-- an address in the guest's space, in no part, in no text range and not in the 4 bytes after one
pub record IsFree (texts : List TextRange) (parts : List Part) (a : ℕ) : Type 0 where
  pub low : 0x1000 ≤ a
  pub high : a < 0x08000000
  pub no_text : All (λ t. (a < t.from) ⊎ (text_end t + 4 ≤ a)) texts
  pub no_part : All (λ s. (a < s.range.from) ⊎ (s.range.to ≤ a)) parts

-- the ends are multiples of the page
pub record IsPaged (r : Range) : Type 0 where
  pub ordered : r.from ≤ r.to
  pub first : r.from % 4096 ≡ 0
  pub last : r.to % 4096 ≡ 0

-- whole pages of free addresses, to which no JAL or branch of text goes
pub record IsRegion (texts : List TextRange) (parts : List Part) (r : Range) : Type 0 where
  pub pages : IsPaged r
  pub free : (a : ℕ) → r.from ≤ a → a < r.to → IsFree texts parts a
  pub no_aims : All (λ a. (a < r.from) ⊎ (r.to ≤ a)) (targets texts)

pub record IsKept (p : Picture) : Type 0 where
  pub texts_fit : All IsText p.texts
  pub texts_rise : AllPairs (λ s t. text_end s ≤ t.from) p.texts
  pub parts_fit : All IsPart p.parts
  pub parts_rise : AllPairs (λ s t. s.range.to ≤ t.range.from) p.parts
  pub apart : All (λ s. All (LiesApart s) p.texts) p.parts
  pub entry_is_word : IsSome (word_at p.texts p.entry)
  pub region : IsRegion p.texts p.parts p.region
  pub funcs_fit : All (IsFunc p.texts) p.funcs
  pub funcs_rise : AllPairs (λ f g. f.from < g.from) p.funcs
  pub few_funcs : length p.funcs < 2 ^ 32
  pub sites_rise : AllPairs (λ s t. s.at < t.at) p.sites
  pub sites_call : All (λ s. site_at p.texts p.funcs s.at ≡ Some s.func) p.sites
  pub pairs_rise : AllPairs (λ s t. s.at < t.at) p.pairs
  pub pairs_call : All (λ s. pair_at p.texts p.funcs p.entry s.at ≡ Some s.func) p.pairs
  pub slots_rise : AllPairs (λ s t. s.at < t.at) p.slots
  pub slots_name : All (λ s. slot_at p.parts p.funcs s.at ≡ Some s.func) p.slots

-- the address of the second word of a pair
abbrev pub is_second : List Aim → ℕ → Bool
is_second pairs a = list_any (λ s. s.at + 4 == a) pairs
