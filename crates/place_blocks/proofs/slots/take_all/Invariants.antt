use Rattle.std.proofs.Common.{◌≡◌, ℕ, length, map, drop}
use Rattle.place_blocks.specs.Passes.{pass}
use Rattle.place_blocks.specs.Passes.{edge_of}
use Rattle.place_blocks.specs.Places.{times_in}
use Rattle.place_blocks.specs.Slots.{all_noted, AreSlots, chains_in}
use Rattle.place_blocks.proofs.slots.take_all.Given as goal

-- the edges that are left lead to the same chains
abbrev pub invariant-loop-e : goal.invariant-loop-e
invariant-loop-e l =
    record {
      are : AreSlots l.slots.items (all_noted l.heads.items);
      sizes : length l.heads.items ≡ length l.slots.items;
      same : length l.slots.items ≡ length l.fn.slots.items;
      times : (b : ℕ) → times_in b l.slots.items ≡ times_in b l.fn.slots.items;
      chains : pass (map edge_of (drop l.e-index l.edges)) (chains_in l.slots.items) ≡ pass (map edge_of l.edges) (chains_in l.fn.slots.items);
    }
