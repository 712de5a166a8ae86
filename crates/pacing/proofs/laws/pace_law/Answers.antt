use Rattle.pacing.proofs.Paces.{snap_from_start, snap_after_attempt, one_snap, ends_from_start, ends_after_attempt, replace_follows, retire_precedes, snap_precedes, attempt_in_time}
use Rattle.pacing.proofs.laws.pace_law.Goals as goal

pub returns : goal.returns
returns _ = record {
  snap_from_start = snap_from_start;
  snap_after_attempt = snap_after_attempt;
  one_snap = one_snap;
  ends_from_start = ends_from_start;
  ends_after_attempt = ends_after_attempt;
  replace_follows = replace_follows;
  retire_precedes = retire_precedes;
  snap_precedes = snap_precedes;
  attempt_in_time = attempt_in_time;
}
