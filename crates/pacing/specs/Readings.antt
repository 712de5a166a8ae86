-- Words for what a log that keeps the pace is like, place by place. Source: this project.
use Rattle.std.specs.Prelude.{◌≡◌, false, List, ◌∷◌, ◌++◌, All}
use Rattle.sched_log.specs.declared.event.Event.{Event}
use Rattle.sched_log.specs.declared.event.Event.TheVariants.{Snap}
use Rattle.pacing.specs.Logs.{is_snap, is_replace}

abbrev pub NoSnap : List Event → Type 0
NoSnap log = All (λ e. is_snap e ≡ false) log

abbrev pub NoReplace : List Event → Type 0
NoReplace log = All (λ e. is_replace e ≡ false) log

-- a snapshot of the log has no attempt yet
pub record HasPending (log : List Event) : Type 0 where
  pub before : List Event
  pub since : List Event
  pub parts : log ≡ before ++ Snap ∷ since
  pub none : NoReplace since
