-- Real steps of one hart, as one entry of a log. Source: this project.
use Rattle.std.specs.Prelude.{◌≡◌, ℕ, ◌+◌, ◌<◌, Bool, true, ◌∷◌, [], ◌++◌, replicate}
use Rattle.sched_log.specs.declared.event.Event.TheVariants.{Real}
use Rattle.machine.specs.States.{State}
use Rattle.machine.specs.Steps.{original_run}
use Rattle.world.specs.Worlds.{Related}
use Rattle.world.specs.Runs.{a_real_step, IsRun}
use Rattle.pacing.specs.Pacing.{can_make}
use Rattle.recorder.specs.Recording.{Recorded}

-- from each state for which w stands, the original machine makes these steps too, the hart live before each
pub record GoAlong (n h : ℕ) (w v : Recorded) (o : State) : Type 0 where
  pub related : Related v.at (original_run w.at.image (replicate n h) o)
  pub live : can_make w.at.image n h o ≡ true

-- v is w after n real steps of hart h, and the log has them as its last entry, which is open or has ended
pub record IsPart (is_open : Bool) (n h : ℕ) (w v : Recorded) : Type 0 where
  pub run : IsRun (replicate n (a_real_step h)) (replicate n h) w.at v.at
  pub image : v.at.image ≡ w.at.image
  pub real : v.at.counts.real ≡ w.at.counts.real + n
  pub marks : v.marks ≡ w.marks
  pub none : n ≡ 0 → v.journal ≡ w.journal
  pub some : 0 < n → v.journal ≡ record { entries = w.journal.entries ++ Real h n ∷ []; is_open = is_open }
  pub goes : (o : State) → Related w.at o → GoAlong n h w v o
