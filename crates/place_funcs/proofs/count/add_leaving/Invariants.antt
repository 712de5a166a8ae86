use Rattle.std.proofs.Common.{◌≡◌, take}
use Rattle.std.specs.Prelude.{◌||◌}
use Rattle.std.specs.List.{list_any, sum_by}
use Rattle.branch_ring.specs.declared.counted.Counted.{Counted as CountedData}
use Rattle.place_funcs.specs.Counts.{counted_in, has_pair, is_same}
use Rattle.place_funcs.proofs.count.add_leaving.Given as goal

abbrev pub invariant-loop-row : goal.invariant-loop-row
invariant-loop-row l = record {
  sum : l.tally.sum ≡ sum_by (counted_in l.tally.seen) l.profile;
  seen : (c : CountedData) → has_pair l.tally.seen c ≡ (has_pair l.fn.tally.seen c || list_any (λ r. is_same r c) (take l.row-index l.row-items));
}
