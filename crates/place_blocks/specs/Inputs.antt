-- Blocks as a function has them.
use Rattle.std.specs.Prelude.{◌<◌, ◌≤◌, ◌^◌, List, length, All, AllPairs}
use Rattle.blocks.specs.declared.run.Block.{Block}

-- each has an address, they lie apart in ascending order, and their numbers have 32 bits
pub record AreBlocks (blocks : List Block) : Type 0 where
  pub filled : All (λ b. b.range.from < b.range.to) blocks
  pub apart : AllPairs (λ a b. a.range.to ≤ b.range.from) blocks
  pub few : length blocks < 2 ^ 32
