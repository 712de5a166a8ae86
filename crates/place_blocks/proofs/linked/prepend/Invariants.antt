use Rattle.std.proofs.Common.{◌≡◌, ◌+◌, ◌++◌, length}
use Rattle.place_blocks.proofs.linked.prepend.Given as goal

abbrev pub invariant-loop : goal.invariant-loop
invariant-loop l = record {
  same : l.rest.items ++ l.all.items ≡ l.fn.first.items ++ l.fn.second.items;
  left : length l.rest.items + l.counter ≡ length l.fn.first.items;
}
