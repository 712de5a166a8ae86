-- What a run delivers is what the original machine delivers. Source: this project; the outline is OCOLOS (Zhang et al., MICRO 2022).
use Rattle.std.specs.Prelude.{◌≡◌, ℕ, List, [], Ok, sum_by}
use Rattle.oc_base.specs.Outside.{Disk}
use Rattle.top_call.specs.Reading.{given_by}
use Rattle.image.specs.Picture.{Picture}
use Rattle.machine.specs.Start.{start_of}
use Rattle.machine.specs.declared.outcome.Outcome.TheVariants.{Unfinished}
use Rattle.sched_log.specs.Script.{events_of, plan_count}
use Rattle.report.specs.declared.writing.Delivery.{Delivery}
use Rattle.world.specs.Worlds.{Replaced, Related, started}
use Rattle.delivered.specs.Building.{IsBuilt}
use Rattle.delivered.specs.Deliveries.{delivery_of}
use Rattle.delivered.specs.Events.{Plays}
use Rattle.delivered.specs.Headline.{ShowsAs, Headline}
use Rattle.play.specs.Schedule.{final_state}
use Rattle.report.specs.Cause.{refusal_of}
use Rattle.play.specs.Decision.{Asked, HasBytes, Given, given_with, reading_of}

-- The run of a script, and the headline of it. Where the script moves no code, no layout is live and the state at the end is that of
-- the original run of the script's schedule.
pub record IsOriginals (given : Given) (d : Delivery) : Type 0 where
  pub image : Picture
  pub built : IsBuilt given.program given.region image
  pub harts : List ℕ
  pub world : Replaced
  pub plays : Plays (events_of image given.script) harts (started image given.ring given.input) world
  pub delivers : d ≡ delivery_of Unfinished given.shown world
  pub headline : Headline image (events_of image given.script) given.ring (start_of image given.input) harts (started image given.ring given.input) world Unfinished d
  pub unmoved : sum_by plan_count (events_of image given.script) ≡ 0
      → (world.lives ≡ []) × Related world (final_state image (events_of image given.script) given.input)
      × ShowsAs Unfinished d (final_state image (events_of image given.script) given.input)

-- where this run is asked for, it is the original machine's
pub record RunsOriginally (words : List (List ℕ)) (disk : Disk) (input : List ℕ) (d : Delivery) : Type 0 where
  pub asked : Asked
  pub read : given_by refusal_of (reading_of words) disk input ≡ Ok asked
  pub program : List ℕ
  pub script : List ℕ
  pub bytes : HasBytes asked.subject program script
  pub originals : IsOriginals (given_with asked.said program script asked.input) d
