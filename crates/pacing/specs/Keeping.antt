-- What is kept of a log as it grows, while harts are away: each of them may still bring a visit home. Source: this project.
use Rattle.std.specs.Prelude.{◌≡◌, ℕ, ◌+◌, ◌*◌, ◌%◌, ◌≤◌, nat_le, Bool, true, false, not, ◌&&◌, is_some, List, length, Option, Some, None}
use Rattle.image.specs.Picture.{Picture}
use Rattle.sched_log.specs.declared.event.Event.{Event}
use Rattle.machine.specs.Harts.{is_live, hart_in}
use Rattle.machine.specs.States.{State}
use Rattle.pacing.specs.Limits.{visit_limit}
use Rattle.pacing.specs.Logs.{state_at, Each}
use Rattle.pacing.specs.Clocks.{Clock, clock_of}
use Rattle.pacing.specs.Pacing.{owes_snap, Fits}
use Rattle.pacing.specs.Serving.{Turn}

-- the attempt of a snapshot is late: as many real steps as `every` since it, and the run goes on
abbrev pub is_overdue : (every : ℕ) → State → Clock → Bool
is_overdue every s c = c.pending && nat_le (every + c.snapped_at) c.real && not (is_some s.outcome)

-- by the state and the clock now: no Replace is owed, no more harts are away than were made, and a whole visit of each is still in time
pub record KeepsTime (every away : ℕ) (s : State) (c : Clock) : Type 0 where
  pub no_replace_owed : c.retired ≡ false
  pub few_away : away ≤ length s.harts
  pub in_time : c.pending ≡ true → c.real + visit_limit * away ≤ c.snapped_at + every + visit_limit * length s.harts

-- inside a lock section: a Snap or an attempt may be owed
pub record IsOpen (p : Picture) (start : State) (every away : ℕ) (log : List Event) : Type 0 where
  pub each : Each (Fits p start every) log
  pub time : KeepsTime every away (state_at p start log) (clock_of log)

-- between two of them: nothing is owed, and no attempt is late unless a stop is wanted, so that no hart leaves
pub record IsSettled (p : Picture) (start : State) (every away : ℕ) (wanted : Bool) (log : List Event) : Type 0 where
  pub opened : IsOpen p start every away log
  pub no_snap_owed : owes_snap every (state_at p start log) (clock_of log) ≡ false
  pub not_overdue : wanted ≡ false → is_overdue every (state_at p start log) (clock_of log) ≡ false

-- the worker's harts that were live right after its last visit are live now
abbrev pub StillLive : (workers worker : ℕ) → Option Turn → (now : State) → Type 0
StillLive workers worker None now = Unit {0}
StillLive workers worker (Some t) now =
    (k : ℕ) → k % workers ≡ worker → is_live (hart_in t.state.harts k).status ≡ true → is_live (hart_in now.harts k).status ≡ true
