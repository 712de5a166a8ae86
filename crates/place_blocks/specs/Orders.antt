-- The order of a function's blocks for a profile. After Pettis and Hansen.
use Rattle.std.specs.Prelude.{◌≡◌, ℕ, ◌<◌, ◌⊎◌, Bool, true, false, ◌==◌, min, List, [], ◌∷◌, length, map}
use Rattle.std.specs.List.{list_any, range_with_len, flat_map}
use Rattle.std.specs.List.Sorted.{IsPermutation}
use Rattle.blocks.specs.declared.run.Block.{Block}
use Rattle.branch_ring.specs.declared.counted.Counted.{Counted}
use Rattle.place_blocks.specs.Rising.{Rises}
use Rattle.place_blocks.specs.Edges.{Edge, leaves, count_of, weight}
use Rattle.place_blocks.specs.Chains.{Joins}

-- at first each of n blocks is a chain
abbrev pub single : ℕ → List ℕ
single b = b ∷ []

abbrev pub singles : ℕ → List (List ℕ)
singles n = map single (range_with_len 0 n)

-- the least block of a chain
abbrev pub least : List ℕ → ℕ
least [] = 0
least (b ∷ []) = b
least (b ∷ c ∷ chain) = min b (least (c ∷ chain))

-- the chain has block 0
abbrev pub is_first : List ℕ → Bool
is_first chain = list_any (λ b. b == 0) chain

-- the count of the pairs from the words of a chain
unfoldable pub heat : List Block → List Counted → List ℕ → ℕ
heat blocks profile chain = count_of profile (λ p. list_any (λ b. leaves blocks b p) chain)

-- the chain of block 0 comes first, the others by their counts, the greatest first, and those with equal counts by their least blocks
abbrev pub Goes : (List ℕ → ℕ) → List ℕ → List ℕ → Type 0
Goes heat c d = (is_first d ≡ false) × ((is_first c ≡ true) ⊎ ((heat d < heat c) ⊎ ((heat c ≡ heat d) × (least c < least d))))

-- the chains one behind the other in that order
pub record IsLaid (heat : List ℕ → ℕ) (chains : List (List ℕ)) (order : List ℕ) : Type 0 where
  pub laid : List (List ℕ)
  pub same : IsPermutation chains laid
  pub rises : Rises (Goes heat) laid
  pub is : order ≡ flat_map (λ c. c) laid

-- this is the order of the blocks: chains are joined as long as there is an edge for it, and laid one behind the other
pub record IsChain (blocks : List Block) (profile : List Counted) (order : List ℕ) : Type 0 where
  pub taken : List Edge
  pub chains : List (List ℕ)
  pub joins : Joins (weight blocks profile) (singles (length blocks)) taken chains
  pub laid : IsLaid (heat blocks profile) chains order
