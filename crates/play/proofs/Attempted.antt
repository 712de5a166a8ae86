-- What an attempt that doesn't run out of memory makes of a world.
use Rattle.std.proofs.Common.{◌≡◌, ◌≢◌, ℕ, Bool, true, false, List, Result, Ok, Err, refl, is_some}
use Rattle.std.specs.Prelude.{OnOk}
use Rattle.plans.specs.declared.plan.Moved.{Moved}
use Rattle.sched_log.specs.declared.facts.Refusal.{Refusal}
use Rattle.sched_log.specs.declared.facts.Refusal.TheVariants.{RegionFull, BranchReach, Unreadable, NoMemory}
use Rattle.world.specs.Worlds.{Replaced}
use Rattle.oc_base.specs.declared.fault.NoMemory.{NoMemory as Full}
use Rattle.world.specs.Replacing.{Attempts, Replaces, over, done, refused}
use Rattle.world.specs.Retiring.{RetiresAs, Retires}
use Rattle.world.specs.Retiring as retiring
use Rattle.world.specs.Records.{SnapsAs, Snaps}
use Rattle.world.specs.Records as records

pub replaces : (plan : List Moved) (w v : Replaced) (answer : Result Unit Refusal) → Attempts plan w (is_some w.machine.outcome) answer v → answer ≢ Err NoMemory → Replaces plan w v
replaces plan w v answer = by_end answer (is_some w.machine.outcome) refl
  where
    by_end : (answer : Result Unit Refusal) (b : Bool) → is_some w.machine.outcome ≡ b → Attempts plan w b answer v → answer ≢ Err NoMemory → Replaces plan w v
    by_end (Ok u) true e is room = over e is
    by_end (Err why) true e is room = absurd is
    by_end (Ok u) false e is room = done e is
    by_end (Err (RegionFull n m)) false e is room = refused (RegionFull n m) (λ x. cc) e is.0 is.1
    by_end (Err (BranchReach at to)) false e is room = refused (BranchReach at to) (λ x. cc) e is.0 is.1
    by_end (Err (Unreadable g y)) false e is room = refused (Unreadable g y) (λ x. cc) e is.0 is.1
    by_end (Err NoMemory) false e is room = absurd (room refl)

-- a retirement that is done
pub retires : (w v : Replaced) (n : ℕ) → RetiresAs w (is_some w.machine.outcome) (Ok n) v → Retires w v
retires w v n = by_end (is_some w.machine.outcome) refl
  where
    by_end : (b : Bool) → is_some w.machine.outcome ≡ b → RetiresAs w b (Ok n) v → Retires w v
    by_end true e is = retiring.over e is.1
    by_end false e is = retiring.done n e is

-- a snapshot that is taken
pub snaps : (w v : Replaced) (u : Unit {0}) → SnapsAs w (is_some w.machine.outcome) (Ok u) v → Snaps w v
snaps w v u = by_end (is_some w.machine.outcome) refl
  where
    by_end : (b : Bool) → is_some w.machine.outcome ≡ b → SnapsAs w b (Ok u) v → Snaps w v
    by_end true e is = records.over e is
    by_end false e is = records.done e is

pub snaps_as : (w v : Replaced) (answer : Result Unit Full) → SnapsAs w (is_some w.machine.outcome) answer v → OnOk answer (Snaps w v)
snaps_as w v (Ok u) is = snaps w v u is
snaps_as w v (Err e) is = tt
