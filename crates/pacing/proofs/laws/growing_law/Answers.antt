use Rattle.pacing.proofs.Kept.{begun, left, landed, visited, given_up, snapped, attempted, rested, over, stop_wanted}
use Rattle.pacing.proofs.laws.growing_law.Goals as goal

pub returns : goal.returns
returns _ = record {
  begins = begun;
  leaves = left;
  lands = landed;
  visits_at_once = visited;
  gives_up = given_up;
  snap_settles = snapped;
  attempt_settles = attempted;
  rests_settled = rested;
  over_settles = over;
  stop_settles = stop_wanted;
}
