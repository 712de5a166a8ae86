use Rattle.pacing.proofs.Bounded.{limit_begins, limit_leaves, limit_lands, limit_gives_up, limit_snaps, limit_attempts, limit_ends, bound_begins, bound_leaves, bound_lands, bound_gives_up, bound_snaps, bound_attempts, bound_rests, bound_ends}
use Rattle.pacing.proofs.laws.bounds_law.Goals as goal

pub returns : goal.returns
returns _ = record {
  steps_begin = limit_begins;
  steps_leave = limit_leaves;
  steps_land = limit_lands;
  steps_give_up = limit_gives_up;
  steps_snap = limit_snaps;
  steps_attempt = limit_attempts;
  steps = limit_ends;
  entries_begin = bound_begins;
  entries_leave = bound_leaves;
  entries_land = bound_lands;
  entries_give_up = bound_gives_up;
  entries_snap = bound_snaps;
  entries_attempt = bound_attempts;
  entries_rest = bound_rests;
  entries = bound_ends;
}
