-- What each plan keeps.
use Rattle.std.specs.Prelude.{◌≡◌, ℕ, false, List, length, map, All}
use Rattle.plans.specs.declared.plan.Moved.{Moved}
use Rattle.plans.specs.Orders.{repeats, IsOrder}

abbrev pub moved_func : Moved → ℕ
moved_func m = m.func

-- no function stands twice, and each order is one of as many blocks as it has
pub record IsPlan (parts : List Moved) : Type 0 where
  pub once : repeats (map moved_func parts) ≡ false
  pub orders : All (λ m. IsOrder (length m.order) m.order) parts
