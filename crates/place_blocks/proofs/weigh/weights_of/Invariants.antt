use Rattle.std.proofs.Common.{◌≡◌, ◌+◌, map, drop}
use Rattle.branch_ring.specs.Profiles.{counted}
use Rattle.place_blocks.specs.Edges.{Edge, weight}
use Rattle.place_blocks.specs.Gains.{weight_at}
use Rattle.place_blocks.proofs.weigh.weights_of.Given as goal

-- the weights so far and those of the rows that are left are all
abbrev pub invariant-loop-from : goal.invariant-loop-from
invariant-loop-from l = (e : Edge) → weight_at l.weights e + weight l.blocks (map counted (drop l.from-index l.rows)) e ≡ weight l.blocks (map counted l.rows) e
