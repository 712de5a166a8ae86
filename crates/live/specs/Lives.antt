-- The run of an image by threads, which is told by the log that it kept. Source: this project.
use Rattle.std.specs.Prelude.{◌≡◌, ◌⊎◌, ℕ, ◌+◌, ◌*◌, ◌<◌, ◌≤◌, false, is_some, List, length}
use Rattle.std.specs.Option.{option_map}
use Rattle.sched_log.specs.declared.event.Event.{Event}
use Rattle.sched_log.specs.Printed.{printed}
use Rattle.machine.specs.declared.outcome.Outcome.TheVariants.{Limit}
use Rattle.pacing.specs.Clocks.{reals}
use Rattle.pacing.specs.Limits.{visit_limit, entry_limit, visit_entries}
use Rattle.pacing.specs.Logs.{steps_of}
use Rattle.pacing.specs.Pacing.{Paced}
use Rattle.pacing.specs.Serving.{Served}
use Rattle.world.specs.Worlds.{Replaced, started}
use Rattle.run_book.specs.Terms.{Terms, start_in}
use Rattle.delivered.specs.Deliveries.{delivery_of}
use Rattle.delivered.specs.Events.{Plays}
use Rattle.delivered.specs.Headline.{Headline}
use Rattle.live_words.specs.declared.words.Words.{Words}
use Rattle.live.specs.declared.life.Life.{Life}
use Rattle.live.specs.Records.{IsRecord}

-- a run without an outcome has come to its limit of real steps, or its log to that of entries
abbrev pub ReachesLimit : (limit : ℕ) → List Event → Type 0
ReachesLimit limit log = (limit ≤ reals log) ⊎ (entry_limit ≤ length log)

-- No visit begins at a limit: past it a run goes by what each hart may bring, and a log by what is owed then.
pub record StaysBelow (limit : ℕ) (log : List Event) (world : Replaced) : Type 0 where
  pub steps : reals log < limit + visit_limit * length world.machine.harts
  pub entries : length log ≤ entry_limit + 1 + visit_entries * length world.machine.harts

-- What a run of such terms delivers, as these words have it shown and recorded.
pub record HasLived (t : Terms) (said : Words) (life : Life) : Type 0 where
  pub world : Replaced
  -- the world at the end is what the log, as a script, makes of the start by the log's own real steps
  pub plays : Plays life.log (steps_of life.log) (started t.image t.ring t.input) world
  -- this is what it delivers; a run without an outcome ended at its limit
  pub delivers : life.delivery ≡ delivery_of (Limit t.limit) said.report world
  -- it is the original machine's
  pub headline : Headline t.image life.log t.ring (start_in t) (steps_of life.log) (started t.image t.ring t.input) world (Limit t.limit) life.delivery
  -- visits are short and full, each worker's harts have them in turn, and snapshots and attempts come when they are due
  pub paced : Paced t.image (start_in t) t.every life.log
  pub served : Served t.image (start_in t) t.workers life.log
  pub limited : is_some world.machine.outcome ≡ false → ReachesLimit t.limit life.log
  pub below : StaysBelow t.limit life.log world
  -- what the workers counted is the number of real steps
  pub shares : life.shares ≡ reals life.log
  -- the log is a record of the run, and is written to the file that is named, if one is
  pub kept : IsRecord t life.log world (printed life.log)
  pub filed : life.file ≡ option_map (λ name. record { name = name; text = printed life.log }) said.log_name
