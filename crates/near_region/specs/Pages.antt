-- Pages that no region may have, as a list with an entry for each page of the guest's space; gaps between them.
-- This project's own.
use Rattle.std.specs.Prelude.{◌≡◌, ℕ, ◌+◌, ◌-◌, ◌*◌, ◌/◌, ◌<◌, ◌≤◌, ◌⊎◌, ◌↔◌, Bool, true, false, List, length, slice_get, Option, Some, None}
use Rattle.std.specs.List.{Any, list_all, filter_map}
use Rattle.near_region.specs.declared.gap.Found.{Found}
use Rattle.oc_base.specs.declared.range.Range.{Range}
use Rattle.image.specs.declared.ranges.TextRange.{TextRange}
use Rattle.image.specs.declared.ranges.Part.{Part}
use Rattle.image.specs.Texts.{text_end, targets, aim_of}
use Rattle.image.specs.Picture.{IsRegion}
use Rattle.near_region.specs.Regions.{is_beside}

-- the addresses of the pages from p up to, but not with, q
abbrev pub pages_range : (p q : ℕ) → Range
pages_range p q = record { from = 4096 * p; to = 4096 * q }

-- a page isn't taken where it is a region by itself
abbrev pub AreTaken : List TextRange → List Part → List Bool → Type 0
AreTaken texts parts taken = (p : ℕ) → (slice_get taken p ≡ Some false) ↔ IsRegion texts parts (pages_range p (p + 1))

-- the page has an address from `from` up to, but not with, `to`
abbrev pub Touches : (from to : ℕ) → (page : ℕ) → Type 0
Touches from to page = (from < 4096 * (page + 1)) × (4096 * page < to)

-- the page is among those from `first` up to, but not with, `last`
abbrev pub IsBetween : (first last : ℕ) → (page : ℕ) → Type 0
IsBetween first last page = (first ≤ page) × (page < last)

-- one of these addresses is in the page
abbrev pub AreIn : List ℕ → (page : ℕ) → Type 0
AreIn addresses page = Any (λ a. a / 4096 ≡ page) addresses

-- a jump of these ranges goes to the page
abbrev pub IsAimed : List TextRange → (page : ℕ) → Type 0
IsAimed texts page = AreIn (targets texts) page

-- the pages that `is` tells are taken now, and the others as before
pub record Takes (is : ℕ → Type 0) (before after : List Bool) : Type 0 where
  pub size : length after ≡ length before
  pub each : (page : ℕ) → (slice_get after page ≡ Some false) ↔ ((slice_get before page ≡ Some false) × (is page → ⊥))

abbrev pub TakesRun : (first last : ℕ) → (before after : List Bool) → Type 0
TakesRun first last before after = Takes (IsBetween first last) before after

abbrev pub TakesRange : (from to : ℕ) → (before after : List Bool) → Type 0
TakesRange from to before after = Takes (Touches from to) before after

abbrev pub TakesAims : List (ℕ × ℕ) → (before after : List Bool) → Type 0
TakesAims words before after = Takes (AreIn (filter_map aim_of words)) before after

abbrev pub TakesTexts : List TextRange → (before after : List Bool) → Type 0
TakesTexts texts before after = Takes (λ page. Any (λ t. Touches t.from (text_end t + 4) page) texts ⊎ IsAimed texts page) before after

abbrev pub TakesParts : List Part → (before after : List Bool) → Type 0
TakesParts parts before after = Takes (λ page. Any (λ s. Touches s.range.from s.range.to page) parts) before after

-- a run of pages is near to the texts where it has none before `first` and none from `last` on
abbrev pub AreNearPages : List TextRange → (first last : ℕ) → Type 0
AreNearPages texts first last = (p q : ℕ) → p < q → q ≤ 32768 → (list_all (is_beside (pages_range p q)) texts ≡ true) ↔ ((first ≤ p) × (q ≤ last))

-- a run of pages lies from `low` up to `high` where it lies from `first` up to `last` and is near to the text range
abbrev pub AreCut : TextRange → (first last low high : ℕ) → Type 0
AreCut t first last low high = (p q : ℕ) → p < q → (((first ≤ p) × (q ≤ last)) × (is_beside (pages_range p q) t ≡ true)) ↔ ((low ≤ p) × (q ≤ high))

-- some pages, one after another, from `first` up to `last`, and none is taken
pub record IsGap (taken : List Bool) (first last p q : ℕ) : Type 0 where
  pub some : p < q
  pub low : first ≤ p
  pub high : q ≤ last
  pub free : (n : ℕ) → p ≤ n → n < q → slice_get taken n ≡ Some false

-- the longest gap, and of several the first; none where there is no gap
abbrev pub IsLongest : List Bool → (first last : ℕ) → Option (ℕ × ℕ) → Type 0
IsLongest taken first last (Some g) =
    IsGap taken first last g.0 g.1 × ((p q : ℕ) → IsGap taken first last p q → (q - p < g.1 - g.0) ⊎ ((q - p ≡ g.1 - g.0) × (g.0 ≤ p)))
IsLongest taken first last None = (p q : ℕ) → IsGap taken first last p q → ⊥

-- what a search for the longest gap has found in the pages from `first` up to p
pub record IsSearched (taken : List Bool) (first p : ℕ) (found : Found) : Type 0 where
  pub low : first ≤ found.start
  pub high : found.start ≤ p
  -- the pages from `start` on aren't taken, and none before it belongs to them
  pub free : (n : ℕ) → found.start ≤ n → n < p → slice_get taken n ≡ Some false
  pub left : (a : ℕ) → first ≤ a → a < p → ((n : ℕ) → a ≤ n → n < p → slice_get taken n ≡ Some false) → found.start ≤ a
  pub ordered : found.from ≤ found.to
  pub within : found.to ≤ p
  pub gap : found.from < found.to → IsGap taken first p found.from found.to
  pub best : (a b : ℕ) → IsGap taken first p a b → (b - a < found.to - found.from) ⊎ ((b - a ≡ found.to - found.from) × (found.from ≤ a))
