-- The plan of a profile. After Pettis and Hansen.
use Rattle.std.specs.Prelude.{◌≡◌, ℕ, List, map, All}
use Rattle.image.specs.Picture.{Picture}
use Rattle.blocks.specs.Blocks.{blocks_of}
use Rattle.plans.specs.declared.plan.Moved.{Moved}
use Rattle.plans.specs.Plans.{moved_func}
use Rattle.branch_ring.specs.declared.counted.Counted.{Counted}
use Rattle.place_blocks.specs.Orders.{IsChain}
use Rattle.place_funcs.specs.Edges.{edge, count}
use Rattle.place_funcs.specs.Groups.{IsClosest}
use Rattle.placer.specs.Chosen.{chosen}

-- the chosen functions, those that call one another close together, each with its blocks in chains
pub record IsPlanFor (p : Picture) (profile : List Counted) (parts : List Moved) : Type 0 where
  pub funcs : IsClosest (edge p.funcs profile) (count p.funcs profile) (chosen p profile) (map moved_func parts)
  pub orders : All (λ m. IsChain (blocks_of p m.func) profile m.order) parts

-- some functions in their order, each with its blocks in chains
pub record AreParts (p : Picture) (profile : List Counted) (funcs : List ℕ) (parts : List Moved) : Type 0 where
  pub moved : map moved_func parts ≡ funcs
  pub orders : All (λ m. IsChain (blocks_of p m.func) profile m.order) parts
