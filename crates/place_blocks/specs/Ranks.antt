-- Chains with what they are ordered by.
use Rattle.std.specs.Prelude.{◌≡◌, ◌<◌, ◌≤◌, ◌⊎◌, ℕ, List, get_or, sum_by}
use Rattle.place_blocks.specs.declared.lay.Ranked.{Ranked}
use Rattle.place_blocks.specs.Orders.{least}

-- the sum of the counts of a chain's blocks
abbrev pub sum_of : List ℕ → List ℕ → ℕ
sum_of counts chain = sum_by (λ b. get_or counts b 0) chain

abbrev pub ranked : List ℕ → List ℕ → Ranked
ranked counts chain = record { heat = sum_of counts chain; least = least chain; chain = chain }

abbrev pub chain_of : Ranked → List ℕ
chain_of r = r.chain

-- r may stand before s
abbrev pub MayPrecede : Ranked → Ranked → Type 0
MayPrecede r s = (r.least ≡ 0) ⊎ ((0 < s.least) × ((s.heat < r.heat) ⊎ ((r.heat ≡ s.heat) × (r.least ≤ s.least))))
