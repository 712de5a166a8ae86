use Rattle.std.proofs.Common.{◌≡◌, ◌++◌, drop, map}
use Rattle.blocks.specs.Words.{addresses}
use Rattle.world.specs.Worlds.{code_of}
use Rattle.seen.specs.Moved.{placed_at}
use Rattle.seen.proofs.moved.layout_words.Given as goal

abbrev pub invariant-loop-i : goal.invariant-loop-i
invariant-loop-i l =
    l.all.items ++ map (placed_at l.places.list (code_of l.world)) (drop l.i (addresses l.base l.words)) ≡ map (placed_at l.places.list (code_of l.world)) (addresses l.base l.words)
