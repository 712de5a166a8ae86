-- What a run of threads gives. Source: this project.
use Rattle.std.specs.Prelude.{◌≡◌, ◌≤◌, ◌<◌, ◌+◌, ◌*◌, ℕ, List, [], length}
use Rattle.image.specs.Picture.{Picture}
use Rattle.pacing.specs.Clocks.{reals}
use Rattle.pacing.specs.Limits.{visit_limit, entry_limit, visit_entries}
use Rattle.pacing.specs.Pacing.{Paced}
use Rattle.pacing.specs.Serving.{Served}
use Rattle.run_book.specs.Booked.{Ends}
use Rattle.run_book.specs.Sections.{IsRunOf}
use Rattle.run_book.specs.Terms.{Terms, start_in}
use Rattle.run_book.specs.Told.{told}
use Rattle.live_threads.specs.declared.run.Ran.{Ran}

abbrev pub terms_of : Picture → (input : List ℕ) → (ring workers every limit : ℕ) → Terms
terms_of image input ring workers every limit =
    record { image = image; input = input; ring = ring; workers = workers; every = every; limit = limit; begins = [] }

-- a run by these terms
pub record HasRun (t : Terms) (r : Ran) : Type 0 where
  -- its world is the run of its own log
  pub run : IsRunOf t r.recorder
  -- it has an outcome, or has come to a limit
  pub ends : Ends t.limit r.recorder r.ended
  -- the log keeps the pace, and serves the harts in turn
  pub paced : Paced t.image (start_in t) t.every (told r.recorder)
  pub served : Served t.image (start_in t) t.workers (told r.recorder)
  -- at most one visit of each hart goes past the limits
  pub entries : length (told r.recorder) ≤ entry_limit + 1 + visit_entries * length r.recorder.at.machine.harts
  pub steps : reals (told r.recorder) < t.limit + visit_limit * length r.recorder.at.machine.harts
  -- each real step is counted by one thread
  pub shares_sum : r.shares ≡ r.recorder.at.counts.real
