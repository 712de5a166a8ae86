-- What a log makes of a world, as events of a script.
use Rattle.std.proofs.Common.{List, [], ◌∷◌, refl}
use Rattle.sched_log.specs.declared.event.Event.{Event}
use Rattle.sched_log.specs.declared.event.Event.TheVariants.{Steps, Real, Till, Snap, Replace, Given, Retire}
use Rattle.world.specs.Worlds.{Replaced}
use Rattle.pacing.specs.Logs.{steps_in, steps_of}
use Rattle.run_book.specs.Told.{Makes, MakesAll}
use Rattle.delivered.specs.Events.{Obeys, Plays}

obeyed : (e : Event) (w v : Replaced) → Makes e w v → Obeys e (steps_in e) w v
obeyed (Real h n) w v made = made
obeyed Snap w v made = made
obeyed Retire w v made = made
obeyed Replace w v made = made
obeyed (Steps h n) w v made = absurd made
obeyed (Till n) w v made = absurd made
obeyed (Given plan) w v made = absurd made

pub played : (log : List Event) (w v : Replaced) → MakesAll log w v → Plays log (steps_of log) w v
played [] w v made = (refl, made)
played (e ∷ es) w v made = (made.0, steps_in e, steps_of es, obeyed e w made.0 made.1, refl, played es made.0 v made.2)
