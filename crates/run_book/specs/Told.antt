-- The log of a threaded run as it is told, and what it makes of a world. Source: this project.
use Rattle.std.specs.Prelude.{◌≡◌, List, [], ◌∷◌, ◌++◌, map, replicate}
use Rattle.placer.specs.Planned.{IsPlanFor}
use Rattle.plans.specs.declared.plan.Moved.{Moved}
use Rattle.sched_log.specs.declared.event.Event.{Event}
use Rattle.sched_log.specs.declared.event.Event.TheVariants.{Steps, Real, Till, Snap, Replace, Given, Retire}
use Rattle.world.specs.Worlds.{Replaced}
use Rattle.world.specs.Runs.{a_real_step, a_snap, a_replacement, a_retirement, IsRun}
use Rattle.recorder.specs.Recording.{Recorded}

-- An attempt that was recorded with its plan is told without: it is the plan of the last snapshot.
abbrev pub as_told : Event → Event
as_told (Given plan) = Replace
as_told e = e

abbrev pub told : Recorded → List Event
told r = map as_told r.journal.entries

-- The world v is w after an entry: each step of a visit is a real one, and a Replace moves code by the plan of the last snapshot. Other
-- entries aren't told.
abbrev pub Makes : Event → Replaced → Replaced → Type 0
Makes (Real h n) w v = IsRun (replicate n (a_real_step h)) (replicate n h) w v
Makes Snap w v = IsRun (a_snap ∷ []) [] w v
Makes Retire w v = IsRun (a_retirement ∷ []) [] w v
Makes Replace w v = (plan : List Moved) × IsPlanFor w.image w.snapshot plan × IsRun (a_replacement plan ∷ []) [] w v
Makes (Steps h n) w v = ⊥
Makes (Till n) w v = ⊥
Makes (Given plan) w v = ⊥

-- the same after these entries in turn
abbrev pub MakesAll : List Event → Replaced → Replaced → Type 0
MakesAll [] w v = v ≡ w
MakesAll (e ∷ es) w v = (u : Replaced) × Makes e w u × MakesAll es u v

-- a log begins with these entries
abbrev pub BeginsWith : (log first : List Event) → Type 0
BeginsWith log first = (more : List Event) × (log ≡ first ++ more)
