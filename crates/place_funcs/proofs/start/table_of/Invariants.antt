use Rattle.std.proofs.Common.{◌≡◌, ℕ, take}
use Rattle.std.specs.List.{sum_by}
use Rattle.place_funcs.specs.Links.{link_at, top_of, AreLone, IsQueued}
use Rattle.place_funcs.specs.Rows.{share_of}
use Rattle.place_funcs.proofs.start.table_of.Given as goal

abbrev pub invariant-loop-f : goal.invariant-loop-f
invariant-loop-f l = record {
  tops : (p q : ℕ) → top_of (link_at l.table.links p q) ≡ sum_by (share_of l.funcs l.chosen l.profile p q) (take l.f-index l.chosen);
  lone : AreLone (link_at l.table.links);
  queued : IsQueued l.table;
}
