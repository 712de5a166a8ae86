-- What events that move no code let the original machine do. Source: this project.
use Rattle.std.specs.Prelude.{ℕ, zero, suc, List, [], ◌∷◌, ◌++◌, length, replicate}
use Rattle.std.specs.List.{range_with_len}
use Rattle.image.specs.Picture.{Picture}
use Rattle.machine.specs.States.{State}
use Rattle.machine.specs.Start.{start_of}
use Rattle.machine.specs.Steps.{original_run}
use Rattle.sched_log.specs.declared.event.Event.{Event}
use Rattle.sched_log.specs.declared.event.Event.TheVariants.{Steps, Real, Till, Snap, Replace, Given, Retire}

-- one turn: each hart that is there at its start, ascending
abbrev pub turn : State → List ℕ
turn s = range_with_len 0 (length s.harts)

-- the harts of n turns, in order
abbrev pub turns : Picture → ℕ → State → List ℕ
turns image zero s = []
turns image (suc n) s = turn s ++ turns image n (original_run image (turn s) s)

-- the harts that an event lets step, in order. With no code moved each step is a real one
abbrev pub harts_of : Picture → Event → State → List ℕ
harts_of image (Steps h n) s = replicate n h
harts_of image (Real h n) s = replicate n h
harts_of image (Till n) s = turns image n s
harts_of image Snap s = []
harts_of image Replace s = []
harts_of image (Given plan) s = []
harts_of image Retire s = []

-- the harts that the events let step, in order
abbrev pub schedule : Picture → List Event → State → List ℕ
schedule image [] s = []
schedule image (e ∷ es) s = harts_of image e s ++ schedule image es (original_run image (harts_of image e s) s)

-- The state after these events, from the start: the original run of their schedule. After the run has ended steps change nothing.
unfoldable pub final_state : Picture → List Event → (input : List ℕ) → State
final_state image events input = original_run image (schedule image events (start_of image input)) (start_of image input)
