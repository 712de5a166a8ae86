use Rattle.std.proofs.Common.{◌≡◌, ◌++◌, drop, map}
use Rattle.seen.specs.Pictures.{drawn_block}
use Rattle.seen.proofs.picture.drawn_runs.Given as goal

abbrev pub invariant-loop-r : goal.invariant-loop-r
invariant-loop-r l = l.blocks ++ map (drawn_block l.entries.profile.now) (drop l.r-index l.runs) ≡ map (drawn_block l.entries.profile.now) l.runs
