-- Chains kept by their first blocks: slot k has the chain that block k begins, and is empty where it begins none.
use Rattle.std.specs.Prelude.{◌≡◌, ℕ, ◌<◌, Bool, true, false, not, ◌==◌, ◌&&◌, List, [], ◌∷◌, ◌++◌, length, get_or, filter, slice_set, if◌then◌else◌}
use Rattle.place_blocks.specs.Edges.{Edge}
use Rattle.place_blocks.specs.Chains.{begins, ends}

abbrev pub is_full : List ℕ → Bool
is_full [] = false
is_full (c ∷ chain) = true

abbrev pub slot : List (List ℕ) → ℕ → List ℕ
slot slots k = get_or slots k []

-- slot k begins with k, and where it ends with a block, k is noted for that block
pub record AreSlots (slots : List (List ℕ)) (heads : ℕ → ℕ) : Type 0 where
  pub own : (k : ℕ) → k < length slots → is_full (slot slots k) ≡ true → begins k (slot slots k) ≡ true
  pub noted : (k a : ℕ) → k < length slots → ends a (slot slots k) ≡ true → heads a ≡ k
  pub inside : (k a : ℕ) → ends a (slot slots k) ≡ true → a < length slots
  pub headed : (a : ℕ) → a < length slots → heads a < length slots

-- the edge can be taken: four looks, whatever the number of chains
abbrev pub can_take : List (List ℕ) → (ℕ → ℕ) → Edge → Bool
can_take slots heads e = not (e.1 == 0) && ((ends e.0 (slot slots (heads e.0)) && not (heads e.0 == e.1)) && is_full (slot slots e.1))

-- what is in the slots after it was
abbrev pub take_edge : List (List ℕ) → (ℕ → ℕ) → Edge → List (List ℕ)
take_edge slots heads e = slice_set (slice_set slots e.1 []) (heads e.0) (slot slots (heads e.0) ++ slot slots e.1)

abbrev pub chains_in : List (List ℕ) → List (List ℕ)
chains_in slots = filter is_full slots

-- h noted for t
abbrev pub note : (ℕ → ℕ) → ℕ → ℕ → ℕ → ℕ
note heads t h a = if a == t then h else heads a

-- what a list notes
abbrev pub all_noted : List ℕ → ℕ → ℕ
all_noted heads a = get_or heads a 0
