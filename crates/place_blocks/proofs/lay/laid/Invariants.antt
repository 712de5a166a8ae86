use Rattle.std.proofs.Common.{◌≡◌, take}
use Rattle.std.specs.List.{flat_map}
use Rattle.place_blocks.specs.Ranks.{chain_of}
use Rattle.place_blocks.proofs.lay.laid.Given as goal

abbrev pub invariant-loop-r : goal.invariant-loop-r
invariant-loop-r l = l.order.items ≡ flat_map chain_of (take l.r-index l.ranks)
