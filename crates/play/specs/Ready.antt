-- When events can be done one after the other: each plan is one of the image.
use Rattle.std.specs.Prelude.{◌≡◌, ⊤, List, None}
use Rattle.std.specs.List.{AllByRecursion}
use Rattle.plans.specs.Given.{plan_fault}
use Rattle.sched_log.specs.Ranges.{IsInRange}
use Rattle.sched_log.specs.declared.event.Event.{Event}
use Rattle.sched_log.specs.declared.event.Event.TheVariants.{Given}
use Rattle.world.specs.Worlds.{Replaced}

abbrev pub CanObey : Event → Replaced → Type 0
CanObey (Given plan) w = plan_fault w.image plan ≡ None
CanObey _ w = ⊤

abbrev pub AreReady : List Event → Replaced → Type 0
AreReady events w = AllByRecursion (IsInRange w.image) events
