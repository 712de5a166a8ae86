-- The log of a world, and what it asks for. Source: this project.
use Rattle.std.specs.Prelude.{◌≡◌, ℕ, zero, suc, ◌+◌, ◌-◌, ◌^◌, ◌<◌, ◌==◌, ◌&&◌, nat_lt, Bool, true, false, List, [], ◌∷◌, ◌++◌, length, replicate, slice_set, Option, Some, None, Result, Err, if◌then◌else◌}
use Rattle.std.specs.List.{flat_map}
use Rattle.sched_log.specs.declared.event.Event.{Event}
use Rattle.sched_log.specs.declared.event.Event.TheVariants.{Steps, Real, Till, Snap, Replace, Given, Retire}
use Rattle.sched_log.specs.declared.facts.Refusal.{Refusal}
use Rattle.sched_log.specs.declared.facts.Refusal.TheVariants as refusal
use Rattle.recorder.specs.declared.journal.Asked.{Asked}
use Rattle.recorder.specs.declared.journal.Asked.TheVariants.{Step, RealStep}
use Rattle.recorder.specs.declared.journal.Journal as declared
use Rattle.world.specs.Runs.{Atom, a_step, a_real_step, a_replacement, a_retirement, a_snap}

-- the entries in their order, and whether steps may be counted in the last one
pub record Journal : Type 0 where
  pub entries : List Event
  pub is_open : Bool

-- what contracts see of the struct
abbrev pub journal_of : declared.Journal → Journal
journal_of j = record { entries = j.entries.items; is_open = j.is_open }

-- ---- what a log asks for, one at a time
unfoldable pub atoms_of : Event → List Atom
atoms_of (Steps h n) = replicate n (a_step h)
atoms_of (Real h n) = replicate n (a_real_step h)
atoms_of (Given plan) = a_replacement plan ∷ []
atoms_of Snap = a_snap ∷ []
atoms_of Retire = a_retirement ∷ []
-- these are lines of scripts, and stand in no such log
atoms_of (Till n) = []
atoms_of Replace = []

unfoldable pub unfolded : List Event → List Atom
unfolded log = flat_map atoms_of log

-- ---- steps
abbrev pub atom_of : Asked → Atom
atom_of (Step h) = a_step h
atom_of (RealStep h) = a_real_step h

abbrev pub entry_of : Asked → ℕ → Event
entry_of (Step h) n = Steps h n
entry_of (RealStep h) n = Real h n

-- the greatest count that an entry has
abbrev pub count_limit : ℕ
count_limit = 2 ^ 64 - 1

-- how many steps of this kind and hart an entry has, if it has no others and one more can be counted
abbrev pub count_in : Asked → Event → Option ℕ
count_in (Step h) (Steps g n) = if g == h && nat_lt n count_limit then Some n else None
count_in (RealStep h) (Real g n) = if g == h && nat_lt n count_limit then Some n else None
count_in _ _ = None

-- one more step in the last entry, or else in an entry of its own
abbrev pub longer : Asked → Event → Option ℕ → List Event
longer a e (Some n) = entry_of a (n + 1) ∷ []
longer a e None = e ∷ entry_of a 1 ∷ []

unfoldable pub with_step : Asked → List Event → List Event
with_step a [] = entry_of a 1 ∷ []
with_step a (e ∷ []) = longer a e (count_in a e)
with_step a (e ∷ d ∷ later) = e ∷ with_step a (d ∷ later)

-- what a step makes of a log that is open, or isn't
abbrev pub entries_with : Asked → (is_open : Bool) → List Event → List Event
entries_with a true log = with_step a log
entries_with a false log = log ++ entry_of a 1 ∷ []

-- ---- what becomes of a journal: nothing where a call is left out
abbrev pub noted : (left_out : Bool) → Asked → Journal → Journal
noted true a j = j
noted false a j = record { entries = entries_with a j.is_open j.entries; is_open = true }

-- so many steps, one after another
abbrev pub noted_times : ℕ → Asked → Journal → Journal
noted_times zero a j = j
noted_times (suc n) a j = noted_times n a (noted false a j)

-- an entry of its own, in which no step is counted
abbrev pub entered : (left_out : Bool) → Event → Journal → Journal
entered true e j = j
entered false e j = record { entries = j.entries ++ e ∷ []; is_open = false }

-- the last entry is ended
abbrev pub closed : Journal → Journal
closed j = record j { is_open = false }

-- an attempt is left out after the run's end, and out of memory
abbrev pub is_left_out : (has_ended : Bool) → Result Unit Refusal → Bool
is_left_out true answer = true
is_left_out false (Err refusal.NoMemory) = true
is_left_out false answer = false

-- what a call adds to what the log asks for
abbrev pub unless : (left_out : Bool) → Atom → List Atom
unless true a = []
unless false a = a ∷ []

-- ---- for the crate's own use: how a step is put into a log
abbrev pub LengthensAs : Asked → (is_open : Bool) → List Event → Option ℕ → Type 0
LengthensAs a is_open log (Some n) = (n < count_limit) × (0 < length log) × (entries_with a is_open log ≡ slice_set log (length log - 1) (entry_of a (n + 1)))
LengthensAs a is_open log None = entries_with a is_open log ≡ log ++ entry_of a 1 ∷ []
