-- A world, the log of what it was asked for, and the harts that are away from it. Source: this project.
use Rattle.std.specs.Prelude.{◌≡◌, ◌+◌, ◌≤◌, ℕ, false, List, length, replicate}
use Rattle.image.specs.Picture.{Picture}
use Rattle.recorder.specs.Journals.{Journal, unfolded}
use Rattle.recorder.specs.Marking.{AreReached}
use Rattle.recorder.specs.declared.marks.Marks.{Marks}
use Rattle.stop_gate.specs.Gates.{Gated, aways, AwayBelow}
use Rattle.world.specs.Worlds.{Replaced}
use Rattle.world.specs.Runs.{IsRun}

pub record Recorded : Type 0 where
  pub at : Replaced
  pub journal : Journal
  pub marks : Marks
  -- which harts are away, and whether a stop is wanted
  pub gate : Gated
  -- the number of the code, and how many steps each of 64 harts was asked for and made
  pub code : ℕ
  pub steps : List ℕ

-- nothing was asked for yet
abbrev pub HasNoEvents : Replaced → Type 0
HasNoEvents w = w.counts ≡ record { real = 0; layout = 0; snaps = 0; attempts = 0; done = 0; placed = 0 }

-- no hart is away, and no stop is wanted
abbrev pub all_here : Gated
all_here = record { away = replicate 64 false; wanted = false }

-- the world is what its own log makes of that at the start, and these are the harts of the real steps
abbrev pub IsRunOfLog : (start : Replaced) → (hs : List ℕ) → Recorded → Type 0
IsRunOfLog start hs w = IsRun (unfolded w.journal.entries) hs start w.at

-- ---- for the crate's own use: what the type keeps beside its value, where so many harts are away, and the log has so many entries and such a room
pub record IsKept (w : Replaced) (m : Marks) (gate : Gated) (steps : List ℕ) (away entries room : ℕ) (image : Picture) : Type 0 where
  pub reached : AreReached w.counts.real m
  -- a hart that is away is made
  pub made : AwayBelow (length w.machine.harts) gate
  pub many : aways gate ≡ away
  -- each hart that is away finds room for an entry
  pub fits : entries + away ≤ room
  pub harts : length steps ≡ 64
  -- the image that is shared is the world's
  pub same : image ≡ w.image
