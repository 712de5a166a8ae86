use Rattle.std.proofs.Common.{◌≡◌, ◌+◌, ◌≤◌, drop}
use Rattle.std.specs.List.{count_by}
use Rattle.world.specs.Told.{call_changed}
use Rattle.world.proofs.told.changed_calls.Given as goal

abbrev pub invariant-loop-s : goal.invariant-loop-s
invariant-loop-s l = record {
  below : l.n ≤ l.s-index;
  count : l.n + count_by (call_changed l.image l.text l.past) (drop l.s-index l.calls) ≡ count_by (call_changed l.image l.text l.past) l.calls;
}
