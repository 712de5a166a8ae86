-- Which run a book is of. Source: this project.
use Rattle.std.specs.Prelude.{ℕ, ◌<◌, ◌≤◌, List}
use Rattle.image.specs.Picture.{Picture}
use Rattle.sched_log.specs.declared.event.Event.{Event}
use Rattle.machine.specs.Start.{start_of}
use Rattle.machine.specs.States.{State}
use Rattle.pacing.specs.Logs.{state_at}

-- `begins` is what the log begins with: nothing for a whole run.
pub record Terms : Type 0 where
  pub image : Picture
  pub input : List ℕ
  pub ring : ℕ
  pub workers : ℕ
  pub every : ℕ
  pub limit : ℕ
  pub begins : List Event

-- the most workers, and the greatest number of steps between snapshots and of a run
abbrev pub most_workers : ℕ
most_workers = 16

abbrev pub most_steps : ℕ
most_steps = 100_000_000

-- some workers, some steps, and not too many
pub record AreFair (t : Terms) : Type 0 where
  pub some_workers : 0 < t.workers
  pub few_workers : t.workers ≤ most_workers
  pub some_steps : 0 < t.every
  pub few_steps : t.every ≤ most_steps
  pub some_limit : 0 < t.limit
  pub low_limit : t.limit ≤ most_steps

-- the original machine before the first step, and after the real steps of a log
abbrev pub start_in : Terms → State
start_in t = start_of t.image t.input

abbrev pub state_in : Terms → List Event → State
state_in t log = state_at t.image (start_in t) log
