use Rattle.std.proofs.Common.{◌≡◌, ◌<◌, ◌^◌, ◌++◌, map, length}
use Rattle.std.specs.List.{All}
use Rattle.place_blocks.specs.Ranks.{ranked, sum_of}
use Rattle.place_blocks.specs.Slots.{chains_in}
use Rattle.place_blocks.proofs.lay.rank_all.Given as goal

abbrev pub invariant-loop-chain : goal.invariant-loop-chain
invariant-loop-chain l = record {
  below : All (λ c. All (λ b. b < length l.counts) c) l.chain-iterator.rest.items;
  fits : All (λ c. sum_of l.counts c < 2 ^ 64) l.chain-iterator.rest.items;
  same : l.ranks.items ++ map (ranked l.counts) (chains_in l.chain-iterator.rest.items) ≡ map (ranked l.counts) (chains_in l.fn.slots.items);
}
