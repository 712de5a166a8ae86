use Rattle.std.proofs.Common.{◌≡◌, ℕ, ◌+◌, take}
use Rattle.std.specs.List.{sum_by}
use Rattle.place_funcs.specs.Links.{link_at, top_of, AreLone, IsQueued}
use Rattle.place_funcs.specs.Rows.{share}
use Rattle.place_funcs.proofs.start.add_rows.Given as goal

abbrev pub invariant-loop-row : goal.invariant-loop-row
invariant-loop-row l = record {
  tops : (p q : ℕ) → top_of (link_at l.table.links p q) ≡ top_of (link_at l.fn.table.links p q) + sum_by (share l.funcs l.chosen l.f p q) (take l.row-index l.rows);
  lone : AreLone (link_at l.table.links);
  queued : IsQueued l.table;
}
