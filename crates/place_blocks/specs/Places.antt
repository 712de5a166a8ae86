-- Where a number may stand, and how often it stands in a list.
use Rattle.std.specs.Prelude.{ℕ, Bool, false, ◌==◌, List, count_by, sum_by, Option, Some, None}
use Rattle.blocks.specs.declared.run.Block.{Block}

-- k is the number that was found
abbrev pub is_at : Option ℕ → ℕ → Bool
is_at None k = false
is_at (Some j) k = j == k

abbrev pub start_of : Block → ℕ
start_of b = b.range.from

-- how often b stands in a chain, and in some chains
abbrev pub times : ℕ → List ℕ → ℕ
times b chain = count_by (λ c. c == b) chain

abbrev pub times_in : ℕ → List (List ℕ) → ℕ
times_in b chains = sum_by (times b) chains
