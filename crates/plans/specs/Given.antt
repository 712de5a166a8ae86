-- Plans of an image. This project's own.
use Rattle.std.specs.Prelude.{◌≢◌, ℕ, ◌<◌, max, Bool, not, ◌||◌, nat_lt, List, [], ◌∷◌, length, map, All, AllPairs, is_some, Option, if◌then◌else◌}
use Rattle.std.specs.List.{list_any}
use Rattle.finite.specs.First.{first_of, when}
use Rattle.image.specs.Picture.{Picture}
use Rattle.blocks.specs.Faults.{fault_of}
use Rattle.blocks.specs.Blocks.{runs_of}
use Rattle.plans.specs.declared.plan.Moved.{Moved}
use Rattle.plans.specs.declared.plan.PlanFault.{PlanFault}
use Rattle.plans.specs.declared.plan.PlanFault.TheVariants.{NoFunction, NotAPlan}
use Rattle.plans.specs.Orders.{repeats, is_order, IsOrder}
use Rattle.plans.specs.Plans.{moved_func}

-- how many blocks a function has: one that can't be cut counts as many as its order has numbers, but at least one
unfoldable pub block_count : Picture → Moved → ℕ
block_count p m = if is_some (fault_of p m.func) then max 1 (length m.order) else length (runs_of p m.func)

abbrev pub is_missing : Picture → Moved → Bool
is_missing p m = not (nat_lt m.func (length p.funcs))

abbrev pub is_misordered : Picture → Moved → Bool
is_misordered p m = not (is_order (block_count p m) m.order)

-- what is wrong with the parts of a plan: a function that isn't there comes before all else
unfoldable pub plan_fault : Picture → List Moved → Option PlanFault
plan_fault p parts = first_of (when (list_any (is_missing p) parts) NoFunction ∷ when (repeats (map moved_func parts) || list_any (is_misordered p) parts) NotAPlan ∷ [])

-- parts without a fault: functions that are there, each once, and an order of the blocks of each
pub record IsPlanOf (p : Picture) (parts : List Moved) : Type 0 where
  pub there : All (λ m. m.func < length p.funcs) parts
  pub once : AllPairs (λ m n. m.func ≢ n.func) parts
  pub orders : All (λ m. IsOrder (block_count p m) m.order) parts
