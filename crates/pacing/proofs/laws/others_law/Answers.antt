use Rattle.pacing.proofs.Others.{step_leaves, off_list, start_lists}
use Rattle.pacing.proofs.laws.others_law.Goals as goal

pub returns : goal.returns
returns _ = record {
  live = λ p h k o listed apart live. (step_leaves p h o).live k apart (off_list k o listed live) live;
  made = λ p h o. (step_leaves p h o).made;
  listed = λ p h o listed. (step_leaves p h o).listed listed;
  start = start_lists;
}
