-- What a script can ask for.
use Rattle.std.specs.Prelude.{◌≡◌, ⊤, ◌^◌, ◌<◌, ◌≤◌, List, length, None, sum_by}
use Rattle.std.specs.List.{AllByRecursion}
use Rattle.image.specs.Picture.{Picture}
use Rattle.plans.specs.declared.plan.Moved.{Moved}
use Rattle.plans.specs.Given.{plan_fault}
use Rattle.sched_log.specs.Script.{count}
use Rattle.sched_log.specs.Limits.{last_hart, count_limit}
use Rattle.sched_log.specs.declared.event.Event.{Event}
use Rattle.sched_log.specs.declared.event.Event.TheVariants.{Steps, Real, Till, Snap, Replace, Given, Retire}
use Rattle.sched_log.specs.declared.line.Line.{Line}
use Rattle.sched_log.specs.declared.line.Line.TheVariants.{Does}

-- an event that a line can ask for; a plan is one of the image, and moves something
abbrev pub IsInRange : Picture → Event → Type 0
IsInRange p (Steps h n) = (h ≤ last_hart) × (n < 2 ^ 32)
IsInRange p (Real h n) = (h ≤ last_hart) × (n < 2 ^ 32)
IsInRange p (Till n) = n < 2 ^ 32
IsInRange p Snap = ⊤
IsInRange p Replace = ⊤
IsInRange p (Given parts) = (0 < length parts) × (plan_fault p parts ≡ None)
IsInRange p Retire = ⊤

-- the event of a line, where it has one
abbrev pub HasRange : Picture → Line → Type 0
HasRange p (Does e) = IsInRange p e
HasRange p _ = ⊤

-- what the types of numbers say of a plan: its blocks are numbers of 32 bits
abbrev pub HasShortBlocks : Moved → Type 0
HasShortBlocks m = AllByRecursion (λ n. n < 2 ^ 32) m.order

abbrev pub IsShort : Event → Type 0
IsShort (Given parts) = AllByRecursion HasShortBlocks parts
IsShort _ = ⊤

-- events that a script can ask for
pub record AreInRange (p : Picture) (events : List Event) : Type 0 where
  pub each : AllByRecursion (IsInRange p) events
  pub sum : sum_by count events ≤ count_limit
