use Rattle.std.proofs.Common.{◌≡◌, ◌-◌, length}
use Rattle.std.specs.List.{range_with_len}
use Rattle.delivered.specs.Events.{harts_in, stretched}
use Rattle.play.proofs.schedule.take_turn.Given as goal

-- the steps that are left make the same of the world
abbrev pub invariant-loop-h : goal.invariant-loop-h
invariant-loop-h l = stretched (range_with_len l.h (length l.fn.world.machine.harts - l.h)) l.world ≡ stretched (harts_in l.fn.world) l.fn.world
