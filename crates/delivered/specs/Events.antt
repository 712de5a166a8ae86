-- The run that a list of events asks for, on a machine whose code is moved. Source: this project.
use Rattle.std.specs.Prelude.{◌≡◌, ℕ, zero, suc, List, [], ◌∷◌, ◌++◌, length, replicate}
use Rattle.std.specs.List.{range_with_len}
use Rattle.placer.specs.Planned.{IsPlanFor}
use Rattle.plans.specs.declared.plan.Moved.{Moved}
use Rattle.sched_log.specs.declared.event.Event.{Event}
use Rattle.sched_log.specs.declared.event.Event.TheVariants.{Steps, Real, Till, Snap, Replace, Given, Retire}
use Rattle.world.specs.Worlds.{Replaced}
use Rattle.world.specs.Runs.{Atom, a_step, a_real_step, a_snap, a_replacement, a_retirement, real_step_of, IsRun}

-- for each hart of a list one real step
abbrev pub stretch : List ℕ → List Atom
stretch [] = []
stretch (h ∷ hs) = a_real_step h ∷ stretch hs

-- the harts that are there, ascending
abbrev pub harts_in : Replaced → List ℕ
harts_in w = range_with_len 0 (length w.machine.harts)

-- a real step of each of these harts in turn
abbrev pub stretched : List ℕ → Replaced → Replaced
stretched [] w = w
stretched (h ∷ hs) w = stretched hs (real_step_of h w)

-- n turns: in each the harts that are there at its start make one real step, in the order of their numbers
abbrev pub turns : ℕ → Replaced → List Atom
turns zero w = []
turns (suc n) w = stretch (harts_in w) ++ turns n (stretched (harts_in w) w)

-- The world v is w after an event, and these are the harts of the real steps. A `replace` alone moves code by the plan of the last
-- snapshot.
abbrev pub Obeys : Event → List ℕ → Replaced → Replaced → Type 0
Obeys (Steps h n) hs w v = IsRun (replicate n (a_step h)) hs w v
Obeys (Real h n) hs w v = IsRun (replicate n (a_real_step h)) hs w v
Obeys (Till n) hs w v = IsRun (turns n w) hs w v
Obeys Snap hs w v = IsRun (a_snap ∷ []) hs w v
Obeys Replace hs w v = (plan : List Moved) × IsPlanFor w.image w.snapshot plan × IsRun (a_replacement plan ∷ []) hs w v
Obeys (Given plan) hs w v = IsRun (a_replacement plan ∷ []) hs w v
Obeys Retire hs w v = IsRun (a_retirement ∷ []) hs w v

-- the same after these events in turn
abbrev pub Plays : List Event → List ℕ → Replaced → Replaced → Type 0
Plays [] hs w v = (hs ≡ []) × (v ≡ w)
Plays (e ∷ es) hs w v =
    (u : Replaced) × (first : List ℕ) × (later : List ℕ) × Obeys e first w u × (hs ≡ first ++ later) × Plays es later u v

-- for some harts
abbrev pub Obeyed : Event → Replaced → Replaced → Type 0
Obeyed e w v = (hs : List ℕ) × Obeys e hs w v

abbrev pub Runs : List Atom → Replaced → Replaced → Type 0
Runs atoms w v = (hs : List ℕ) × IsRun atoms hs w v

abbrev pub Played : List Event → Replaced → Replaced → Type 0
Played events w v = (hs : List ℕ) × Plays events hs w v
