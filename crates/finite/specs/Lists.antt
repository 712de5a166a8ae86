-- A partial function from numbers, as the list of its graph.
use Rattle.std.specs.Prelude.{◌≡◌, ℕ, ◌<◌, ◌↔◌, List, Contains, AllPairs, Option, Some}

-- The list has (a, v) exactly where f gives v at a: each a once, ascending.
pub record Lists (f : ℕ → Option ℕ) (entries : List (ℕ × ℕ)) : Type 0 where
  pub ascending : AllPairs (λ x y. x.0 < y.0) entries
  pub members : (a v : ℕ) → (f a ≡ Some v) ↔ Contains entries (a, v)
