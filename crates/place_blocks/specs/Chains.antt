-- Chains of blocks, and which two are joined next. After Pettis and Hansen.
use Rattle.std.specs.Prelude.{◌≡◌, ℕ, ◌<◌, ◌⊎◌, Bool, true, false, not, ◌==◌, ◌&&◌, List, [], ◌∷◌, ◌++◌, map, filter, if◌then◌else◌}
use Rattle.std.specs.List.{list_any}
use Rattle.place_blocks.specs.Edges.{Edge}

-- the chain begins with b, or ends with a
abbrev pub begins : ℕ → List ℕ → Bool
begins b [] = false
begins b (c ∷ chain) = c == b

abbrev pub ends : ℕ → List ℕ → Bool
ends a [] = false
ends a (c ∷ []) = c == a
ends a (c ∷ d ∷ chain) = ends a (d ∷ chain)

-- the edge's first block ends a chain, and its second begins another and isn't block 0
abbrev pub can_join : List (List ℕ) → Edge → Bool
can_join chains e = not (e.1 == 0) && (list_any (λ c. ends e.0 c && not (begins e.1 c)) chains && list_any (begins e.1) chains)

-- the chain that b begins
abbrev pub chain_of : ℕ → List (List ℕ) → List ℕ
chain_of b [] = []
chain_of b (c ∷ chains) = if begins b c then c else chain_of b chains

-- the chain goes on with the tail if it ends with a
abbrev pub go_on : ℕ → List ℕ → List ℕ → List ℕ
go_on a tail chain = if ends a chain then chain ++ tail else chain

-- the chain that the edge's first block ends goes on with the one that its second begins, which is no more a chain of its own
abbrev pub join : Edge → List (List ℕ) → List (List ℕ)
join e chains = map (go_on e.0 (chain_of e.1 chains)) (filter (λ c. not (begins e.1 c)) chains)

module _ (weight : Edge → ℕ) where
  -- e is heavier than f, or as heavy and the less of the two
  abbrev pub Precedes : Edge → Edge → Type 0
  Precedes e f = (weight f < weight e) ⊎ ((weight e ≡ weight f) × ((e.0 < f.0) ⊎ ((e.0 ≡ f.0) × (e.1 < f.1))))

  -- the edge can be taken: its weight is over 0, and it leads from the end of a chain to the beginning of another
  abbrev pub IsOpen : List (List ℕ) → Edge → Type 0
  IsOpen chains e = (0 < weight e) × (can_join chains e ≡ true)

  -- e is the one to be taken: it precedes each other that can be
  abbrev pub IsNext : List (List ℕ) → Edge → Type 0
  IsNext chains e = IsOpen chains e × ((f : Edge) → IsOpen chains f → (e ≡ f) ⊎ Precedes e f)

  -- taking these edges, one after another, leads from some chains to others, where no edge can be taken
  abbrev pub Joins : List (List ℕ) → List Edge → List (List ℕ) → Type 0
  Joins before [] after = (before ≡ after) × ((e : Edge) → IsOpen before e → ⊥)
  Joins before (e ∷ edges) after = IsNext before e × Joins (join e before) edges after
