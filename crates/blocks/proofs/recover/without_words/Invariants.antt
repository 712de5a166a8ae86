use Rattle.std.proofs.Common.{◌≡◌, map, take}
use Rattle.blocks.specs.Blocks.{block_of}
use Rattle.blocks.proofs.recover.without_words.Given as goal

abbrev pub invariant-loop-r : goal.invariant-loop-r
invariant-loop-r l = l.blocks.items ≡ map block_of (take l.r-index l.runs)
