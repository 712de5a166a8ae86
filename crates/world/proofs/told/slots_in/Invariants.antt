use Rattle.std.proofs.Common.{◌≡◌, ◌+◌, ◌≤◌, drop}
use Rattle.std.specs.List.{count_by}
use Rattle.world.specs.Told.{leads_in}
use Rattle.world.proofs.told.slots_in.Given as goal

abbrev pub invariant-loop-s : goal.invariant-loop-s
invariant-loop-s l = record {
  below : l.n ≤ l.s-index;
  count : l.n + count_by (leads_in l.region l.links) (drop l.s-index l.slots) ≡ count_by (leads_in l.region l.links) l.slots;
}
