-- Orders of the numbers below a number.
use Rattle.std.specs.Prelude.{◌≡◌, ℕ, ◌<◌, Bool, true, false, not, ◌==◌, ◌&&◌, ◌||◌, nat_lt, List, [], ◌∷◌, length, All}
use Rattle.std.specs.List.{list_any, list_all, range_with_len}

abbrev pub is_among : List ℕ → ℕ → Bool
is_among order j = list_any (λ o. o == j) order

-- some number stands twice
abbrev pub repeats : List ℕ → Bool
repeats [] = false
repeats (o ∷ order) = is_among order o || repeats order

-- k numbers below k, none of them twice, and so each: a permutation of 0 to k - 1
pub record IsOrder (k : ℕ) (order : List ℕ) : Type 0 where
  pub size : length order ≡ k
  pub below : All (λ o. o < k) order
  pub once : repeats order ≡ false
  pub each : (j : ℕ) → j < k → is_among order j ≡ true

-- the test of IsOrder
unfoldable pub is_order : ℕ → List ℕ → Bool
is_order k order = length order == k && (list_all (λ o. nat_lt o k) order && (not (repeats order) && list_all (is_among order) (range_with_len 0 k)))
