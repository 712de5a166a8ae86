-- Where layouts begin, with their positions. Source: this project.
use Rattle.std.specs.Prelude.{◌≡◌, ℕ, ◌+◌, ◌<◌, ◌==◌, ◌&&◌, true, List, [], ◌∷◌, ◌++◌, length, slice_get, All, Some, if◌then◌else◌}
use Rattle.std.specs.List.{list_any}
use Rattle.std.specs.List.Sorted.{IsNonDecreasingBy}
use Rattle.layout.specs.Laid.{Laid}
use Rattle.layout.specs.declared.bases.Place.{Place}

abbrev pub base_of : Place → ℕ
base_of q = q.base

-- the place of a layout; one without words has none
abbrev pub place_of : ℕ → Laid → List Place
place_of k l = if length l.words == 0 then [] else record { base = l.base; position = k } ∷ []

-- the places of layouts whose positions go on from k
abbrev pub places_from : ℕ → List Laid → List Place
places_from k [] = []
places_from k (l ∷ ls) = place_of k l ++ places_from (k + 1) ls

-- the places of all layouts that have words, ascending by base
pub record ArePlaces (lives : List Laid) (places : List Place) : Type 0 where
  pub rises : IsNonDecreasingBy base_of places
  pub each : (k : ℕ) (l : Laid) → slice_get lives k ≡ Some l → 0 < length l.words → list_any (λ q. (q.base == l.base) && (q.position == k)) places ≡ true
  pub only : All (λ q. (q.position < length lives) × ((l : Laid) → slice_get lives q.position ≡ Some l → (q.base ≡ l.base) × (0 < length l.words))) places
