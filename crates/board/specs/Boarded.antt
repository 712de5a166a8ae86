-- What is shown of a run while it goes on. Source: this project.
use Rattle.std.specs.Prelude.{◌≡◌, ℕ, true, List, [], ◌∷◌, All}
use Rattle.atomic_table.specs.Seated.{TableId}
use Rattle.sched_log.specs.declared.event.Event.{Event}
use Rattle.watch.specs.Shown.{last_of, Seen, seen}
use Rattle.world.specs.Told.{retired_in}
use Rattle.world.specs.Worlds.{Replaced, started}
use Rattle.recorder.specs.Recording.{Recorded}
use Rattle.run_book.specs.Booked.{Booked}
use Rattle.run_book.specs.Terms.{Terms}
use Rattle.run_book.specs.Told.{told, MakesAll, BeginsWith}

-- What a lock lets see of the board: the book, and what its pass has shown.
pub record Boarded : Type 0 where
  pub book : Booked
  pub pass : Seen

-- the writer's pass of a watch that is new
abbrev pub new_writer : TableId → Seen
new_writer cell = seen cell ((0 ∷ 0 ∷ 0 ∷ []) ∷ []) true

-- the real steps made, the replacements done and the layouts retired, as a watch shows them
abbrev pub counts_of : Replaced → List ℕ
counts_of w = w.counts.real ∷ w.counts.done ∷ retired_in w ∷ []

-- the counts of the world that a beginning of the log makes of the start
pub record AreOfBeginning (t : Terms) (log : List Event) (counts : List ℕ) : Type 0 where
  pub beginning : List Event
  pub begins : BeginsWith log beginning
  pub world : Replaced
  pub made : MakesAll beginning (started t.image t.ring t.input) world
  pub counts_are : counts ≡ counts_of world

-- What the writer's pass of a watch has shown of the run so far.
pub record IsShowing (cell : TableId) (t : Terms) (r : Recorded) (pass : Seen) : Type 0 where
  pub own : pass.cell ≡ cell
  pub writes : pass.writes ≡ true
  -- each of the counts is that of a beginning of the log
  pub each : All (AreOfBeginning t (told r)) pass.shown
  -- and the last that of the whole log
  pub last : last_of pass.shown ≡ counts_of r.at
