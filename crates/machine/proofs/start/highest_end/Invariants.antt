use Rattle.std.proofs.Common.{◌≡◌, ◌≤◌, drop, map}
use Rattle.std.specs.Prelude.{max}
use Rattle.machine.specs.Start.{highest}
use Rattle.machine.proofs.start.highest_end.Given as goal

-- with the ends that are left it is the highest
abbrev pub invariant-loop-piece : goal.invariant-loop-piece
invariant-loop-piece g l =
    (max (highest (map g.T.Spanned.end (drop l.piece-index l.pieces))) l.highest ≡ highest (map g.T.Spanned.end l.pieces)) × (l.highest ≤ 0x0800_0000)
