-- How long a log gets while harts are away: a visit begins only below a limit of real steps and one of entries, so that each hart adds
-- at most one visit past them. Source: this project.
use Rattle.std.specs.Prelude.{ℕ, ◌+◌, ◌*◌, ◌<◌, ◌≤◌, Bool, List, length, if◌then◌else◌}
use Rattle.image.specs.Picture.{Picture}
use Rattle.sched_log.specs.declared.event.Event.{Event}
use Rattle.machine.specs.States.{State}
use Rattle.pacing.specs.Limits.{visit_limit, entry_limit, attempt_entries, visit_entries}
use Rattle.pacing.specs.Logs.{state_at}
use Rattle.pacing.specs.Clocks.{clock_of, reals}

-- real steps, with a whole visit of each hart that is away
pub record IsLimited (p : Picture) (start : State) (limit away : ℕ) (log : List Event) : Type 0 where
  pub steps : reals log + visit_limit * away < limit + visit_limit * length (state_at p start log).harts

-- the entries that are still to come of a pending attempt
abbrev pub to_come : (pending : Bool) → ℕ
to_come pending = if pending then attempt_entries else 0

-- entries, with some to spare, and those of a visit of each hart that is away
pub record IsBounded (p : Picture) (start : State) (away spare : ℕ) (log : List Event) : Type 0 where
  pub entries : length log + to_come (clock_of log).pending + spare + visit_entries * away
      ≤ entry_limit + 1 + visit_entries * length (state_at p start log).harts
