-- A hart leaves the lock, and comes home. Source: this project.
use Rattle.std.specs.Prelude.{◌≡◌, ℕ, List, [], Bool, None, Some, Result, Ok, Err}
use Rattle.world.specs.Adopting.{shown_of}
use Rattle.ahead.specs.Flown.{Flown, place_of, compared}
use Rattle.ahead.specs.Notes.{first_apart}
use Rattle.ahead.specs.declared.home.Stranger.{Stranger}
use Rattle.machine.specs.Harts.{hart_in}
use Rattle.recorder.specs.declared.journal.Asked.TheVariants.{RealStep}
use Rattle.recorder.specs.Journals.{noted_times}
use Rattle.recorder.specs.Numbers.{steps_by, with_steps}
use Rattle.recorder.specs.Recording.{Recorded}
use Rattle.stop_gate.specs.Gates.{is_away, left, back_in, wanting}
use Rattle.world.specs.Runs.{real_steps_of}

-- ---- leaving
-- what hart h takes with it
abbrev pub leaving : ℕ → Recorded → Flown
leaving h r = record {
  hart = h;
  code = r.code;
  steps = steps_by h r.steps;
  from = place_of (hart_in r.at.machine.harts h);
  now = place_of (hart_in r.at.machine.harts h);
  made = 0;
  notes = [];
  shared = shown_of r.at;
}

abbrev pub without : ℕ → Recorded → Recorded
without h r = record r { gate = left h r.gate }

-- ---- coming home
-- what stands now, and what it brings
abbrev pub compared_home : Recorded → Flown → List (ℕ × ℕ)
compared_home r a = compared (is_away r.gate a.hart) r.code (steps_by a.hart r.steps) r.at a

-- a stranger is told by the first two of these that differ, and is answered only where there are such two
abbrev pub TellsStranger : Result Unit Stranger → List (ℕ × ℕ) → Type 0
TellsStranger (Ok home) pairs = first_apart pairs ≡ None
TellsStranger (Err s) pairs = first_apart pairs ≡ Some (s.kept, s.brought)

-- hart h is no longer away, and nothing else is done
abbrev pub with_back : ℕ → Recorded → Recorded
with_back h r = record r { gate = back_in h r.gate }

-- and the steps that it made are added, as real steps are
abbrev pub with_home : Flown → Recorded → Recorded
with_home a r = record {
  at = real_steps_of a.made a.hart r.at;
  journal = noted_times a.made (RealStep a.hart) r.journal;
  marks = r.marks;
  gate = back_in a.hart r.gate;
  code = r.code;
  steps = with_steps a.hart a.made r.steps;
}

-- ---- stopping
abbrev pub with_wanted : Bool → Recorded → Recorded
with_wanted b r = record r { gate = wanting b r.gate }
