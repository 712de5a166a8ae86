-- Logs of a threaded run, and the original machine after one. Source: this project.
use Rattle.std.specs.Prelude.{◌≡◌, ℕ, Bool, true, false, List, [], ◌∷◌, ◌++◌, replicate}
use Rattle.std.specs.List.{flat_map}
use Rattle.image.specs.Picture.{Picture}
use Rattle.sched_log.specs.declared.event.Event.{Event}
use Rattle.sched_log.specs.declared.event.Event.TheVariants.{Real, Snap, Replace, Retire}
use Rattle.machine.specs.States.{State}
use Rattle.machine.specs.Steps.{original_run}

abbrev pub is_snap : Event → Bool
is_snap Snap = true
is_snap _ = false

abbrev pub is_retire : Event → Bool
is_retire Retire = true
is_retire _ = false

abbrev pub is_replace : Event → Bool
is_replace Replace = true
is_replace _ = false

-- the harts of an entry's real steps, in order: a visit of hart h makes n
abbrev pub steps_in : Event → List ℕ
steps_in (Real h n) = replicate n h
steps_in _ = []

abbrev pub steps_of : List Event → List ℕ
steps_of log = flat_map steps_in log

-- the original machine after the real steps of a log
abbrev pub state_at : Picture → (start : State) → List Event → State
state_at p start log = original_run p (steps_of log) start

-- each entry of a log fits what stands before it
abbrev pub Each : (List Event → Event → Type 0) → List Event → Type 0
Each Fits log = (before : List Event) (e : Event) (rest : List Event) → log ≡ before ++ e ∷ rest → Fits before e
