use Rattle.std.proofs.Common.{◌≡◌, take}
use Rattle.std.specs.Prelude.{Contains}
use Rattle.std.specs.List.{sum_by}
use Rattle.branch_ring.specs.declared.counted.Counted.{Counted as CountedData}
use Rattle.place_funcs.specs.Counts.{counted_in, has_pair}
use Rattle.place_funcs.specs.Edges.{is_held}
use Rattle.place_funcs.proofs.count.count_of.Given as goal

abbrev pub invariant-loop-f : goal.invariant-loop-f
invariant-loop-f l = record {
  sum : l.tally.sum ≡ sum_by (counted_in l.tally.seen) l.profile;
  seen : (c : CountedData) → Contains l.profile c → has_pair l.tally.seen c ≡ is_held l.funcs (take l.f-index l.group) c.from;
}
