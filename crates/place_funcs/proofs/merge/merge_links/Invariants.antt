use Rattle.std.proofs.Common.{drop}
use Rattle.place_funcs.specs.Links.{link_at, AreSmall, IsQueued}
use Rattle.place_funcs.proofs.Over.{IsOnTheWay}
use Rattle.place_funcs.proofs.merge.merge_links.Given as goal

abbrev pub invariant-loop-y : goal.invariant-loop-y
invariant-loop-y l = record {
  way : IsOnTheWay (link_at l.fn.table.links) (link_at l.table.links) l.a l.b (drop l.y-index l.y-items);
  small : AreSmall (link_at l.table.links);
  queued : IsQueued l.table;
}
