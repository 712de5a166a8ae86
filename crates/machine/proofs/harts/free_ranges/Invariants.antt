use Rattle.std.proofs.Common.{◌≡◌, ◌++◌, map, take, drop}
use Rattle.machine.specs.Harts.{unreserved, is_in}
use Rattle.machine.proofs.harts.free_ranges.Given as goal

-- the harts before have lost theirs, and the others are as they were
abbrev pub invariant-loop-hart : goal.invariant-loop-hart
invariant-loop-hart l = l.harts ≡ map (unreserved (is_in l.ranges)) (take l.hart-index l.fn.harts) ++ drop l.hart-index l.fn.harts
