use Rattle.pacing.specs.Serving.{TurnFits}
use Rattle.pacing.proofs.Growing.{each-nil, each-snoc}
use Rattle.pacing.proofs.Serves.{next_in_turn, still_live, none_yet}
use Rattle.pacing.proofs.laws.serving_law.Goals as goal

pub returns : goal.returns
returns _ = record {
  begins = λ p start workers. each-nil (TurnFits p start workers);
  begins_live = none_yet;
  serves = λ p start workers log e served fits. each-snoc (TurnFits p start workers) log e served fits;
  next_fits = next_in_turn;
  serving_grows = still_live;
}
