use Rattle.std.proofs.Common.{◌≡◌, [], replicate}
use Rattle.world.proofs.rings.Rings.start.Given as goal

-- the rings so far are empty
abbrev pub invariant-loop-h : goal.invariant-loop-h
invariant-loop-h l = l.list.items ≡ replicate l._h (record { room = l.ring; pairs = [] })
