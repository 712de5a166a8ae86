use Rattle.std.proofs.Common.{◌≡◌, ◌+◌, ◌*◌, ◌≤◌, length}
use Rattle.std.specs.List.{All}
use Rattle.place_blocks.specs.Inputs.{AreBlocks}
use Rattle.place_blocks.proofs.tests.blocks_of.Given as goal

abbrev pub invariant-loop-i : goal.invariant-loop-i
invariant-loop-i l = record {
  size : length l.blocks.items ≡ l.i;
  are : AreBlocks l.blocks.items;
  before : All (λ b. b.range.to ≤ 65536 + 16 * l.i) l.blocks.items;
}
