-- What the record of a run is: its log as a script, from which the run can be had again. Source: this project.
use Rattle.std.specs.Prelude.{◌≡◌, ℕ, ◌≤◌, List, length}
use Rattle.sched_log.specs.declared.event.Event.{Event}
use Rattle.sched_log.specs.Printed.{printed, ReadsAs}
use Rattle.sched_log.specs.Script.{events_of}
use Rattle.world.specs.Worlds.{Replaced, started}
use Rattle.run_book.specs.Terms.{Terms}
use Rattle.delivered.specs.Events.{Played}

-- the most bytes of a script's file
abbrev pub script_limit : ℕ
script_limit = 536870912

-- This text is the record of a run of such terms, with this log, which came to this world.
pub record IsRecord (t : Terms) (log : List Event) (world : Replaced) (text : List ℕ) : Type 0 where
  -- the log is printed
  pub is : text ≡ printed log
  -- as a script for the image the text has no fault, and asks for what is in the log
  pub back : ReadsAs t.image log text
  -- it isn't too long for a script
  pub within : length text ≤ script_limit
  -- and whatever it asks for comes to the same world, with the same image, ring and input
  pub again : (u : Replaced) → Played (events_of t.image text) (started t.image t.ring t.input) u → u ≡ world
