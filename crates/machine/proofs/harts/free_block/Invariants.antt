use Rattle.std.proofs.Common.{◌≡◌, ◌++◌, map, take, drop, eqb}
use Rattle.machine.specs.Harts.{unreserved}
use Rattle.machine.proofs.harts.free_block.Given as goal

-- the harts before have lost theirs, and the others are as they were
abbrev pub invariant-loop-hart : goal.invariant-loop-hart
invariant-loop-hart l = l.harts ≡ map (unreserved (λ b. eqb b l.block)) (take l.hart-index l.fn.harts) ++ drop l.hart-index l.fn.harts
