use Rattle.std.proofs.Common.{◌≡◌, ℕ, ◌<◌, ◌≤◌, true}
use Rattle.finite.specs.Maps.{contains}
use Rattle.guest_mem.specs.Access.{KeepsRoom}
use Rattle.guest_mem.proofs.transfer.room_for.Given as goal

abbrev pub invariant-loop-w : goal.invariant-loop-w
invariant-loop-w g l = record {
  same : g.S.WordStore.contents l.store ≡ g.S.WordStore.contents l.fn.store;
  room : KeepsRoom (g.S.WordStore.room l.fn.store) (g.S.WordStore.room l.store);
  made : (v : ℕ) → l.first ≤ v → v < l.w → contains (g.S.WordStore.room l.store) v ≡ true;
}
