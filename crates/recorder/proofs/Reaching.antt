-- The count of real steps never falls, so marks stay reached.
use Rattle.std.proofs.Common.{◌≡◌, ℕ, zero, suc, ◌^◌, ◌<◌, ◌≤◌, Bool, true, false, List, refl, sym, ap, ◌∙◌, subst, arith}
use Rattle.std.specs.Prelude.{Option, Some, None, Result, Ok, Err, if◌then◌else◌}
use Rattle.oc_base.specs.declared.fault.NoMemory.{NoMemory}
use Rattle.plans.specs.declared.plan.Moved.{Moved}
use Rattle.layout.specs.Laid.{Laid}
use Rattle.sched_log.specs.declared.facts.Refusal.{Refusal}
use Rattle.sched_log.specs.declared.facts.Refusal.TheVariants as refusal
use Rattle.sim_laws.specs.declared.stepped.Stepped.{Stepped}
use Rattle.sim_laws.specs.declared.stepped.Stepped.TheVariants as kind
use Rattle.sim_laws.specs.Steps.{is_layout}
use Rattle.world.specs.declared.counts.Counts.{Counts}
use Rattle.world.specs.Worlds.{Replaced, counted, kind_of, step_of}
use Rattle.world.specs.Runs.{until_real, real_step_of}
use Rattle.world.specs.Replacing.{Attempts, done_by, refused_as}
use Rattle.world.specs.Retiring.{RetiresAs}
use Rattle.world.specs.Records.{SnapsAs}
use Rattle.recorder.specs.declared.marks.Marks.{Marks}
use Rattle.recorder.specs.Marking.{AreReached}

pub reached_later : (m : Marks) (real later : ℕ) → real ≤ later → AreReached real m → AreReached later m
reached_later m real later le r = let a = r.attempt in let s = r.snap in record { attempt = omega arith; snap = omega arith }

-- ---- steps
pub counted_more : (k : Stepped) (c : Counts) → c.real < 2 ^ 64 → (c.real ≤ (counted k c).real) × ((counted k c).real < 2 ^ 64)
counted_more kind.Real c lt = (grind arith, grind arith)
counted_more kind.Layout c lt = (omega arith, lt)
counted_more kind.Over c lt = (omega arith, lt)

step_more : (h : ℕ) (w : Replaced) → w.counts.real < 2 ^ 64 → (w.counts.real ≤ (step_of h w).counts.real) × ((step_of h w).counts.real < 2 ^ 64)
unfolding step_of
step_more h w lt = counted_more (kind_of h w) w.counts lt

until_more : (n h : ℕ) (w : Replaced) → w.counts.real < 2 ^ 64 → w.counts.real ≤ (until_real n h w).counts.real
unfolding until_real
until_more zero h w lt = omega arith
until_more (suc n) h w lt =
    let one = step_more h w lt in
    let later = until_more n h (step_of h w) one.1 in
    by_first (is_layout (kind_of h w)) one.0 later
  where
    by_first : (b : Bool) → w.counts.real ≤ (step_of h w).counts.real → (step_of h w).counts.real ≤ (until_real n h (step_of h w)).counts.real
        → w.counts.real ≤ (if b then until_real n h (step_of h w) else step_of h w).counts.real
    by_first true one later = omega (arith, one, later)
    by_first false one later = one

pub step_reaches : (h : ℕ) (w v : Replaced) (m : Marks) → w.counts.real < 2 ^ 64 → v ≡ step_of h w → AreReached w.counts.real m → AreReached v.counts.real m
step_reaches h w v m lt is r = reached_later m w.counts.real v.counts.real (subst (λ (x : Replaced). w.counts.real ≤ x.counts.real) (sym is) (step_more h w lt).0) r

pub real_step_reaches : (h : ℕ) (w v : Replaced) (m : Marks) → w.counts.real < 2 ^ 64 → v ≡ real_step_of h w → AreReached w.counts.real m → AreReached v.counts.real m
real_step_reaches h w v m lt is r = reached_later m w.counts.real v.counts.real (subst (λ (x : Replaced). w.counts.real ≤ x.counts.real) (sym is) (until_more 3 h w lt)) r

-- ---- calls that make no step
pub snap_real : (w v : Replaced) (b : Bool) (answer : Result Unit NoMemory) → SnapsAs w b answer v → v.counts.real ≡ w.counts.real
snap_real w v true (Ok u) is = ap (λ (x : Replaced). x.counts.real) is
snap_real w v true (Err e) is = absurd is
snap_real w v false (Ok u) is = ap (λ (x : Replaced). x.counts.real) is.is
snap_real w v false (Err e) is = ap (λ (x : Replaced). x.counts.real) is

pub retirement_real : (w v : Replaced) (b : Bool) (answer : Result ℕ NoMemory) → RetiresAs w b answer v → v.counts.real ≡ w.counts.real
retirement_real w v true (Ok n) is = ap (λ (x : Replaced). x.counts.real) is.1
retirement_real w v true (Err e) is = absurd is
retirement_real w v false (Ok n) is = ap (λ (x : Replaced). x.counts.real) is.is
retirement_real w v false (Err e) is = ap (λ (x : Replaced). x.counts.real) is

pub done_real : (new : Option Laid) (c : Counts) → (done_by new c).real ≡ c.real
done_real None c = refl
done_real (Some l) c = refl

refused_real : (w v : Replaced) (why : Refusal) → v ≡ refused_as why w → v.counts.real ≡ w.counts.real
refused_real w v why is = ap (λ (x : Replaced). x.counts.real) is

pub attempt_real : (plan : List Moved) (w v : Replaced) (b : Bool) (answer : Result Unit Refusal) → Attempts plan w b answer v → v.counts.real ≡ w.counts.real
attempt_real plan w v true (Ok u) is = ap (λ (x : Replaced). x.counts.real) is
attempt_real plan w v true (Err why) is = absurd is
attempt_real plan w v false (Ok u) is = ap (λ (x : Replaced). x.counts.real) is.is ∙ done_real is.new w.counts
attempt_real plan w v false (Err (refusal.RegionFull n m)) is = refused_real w v (refusal.RegionFull n m) is.1
attempt_real plan w v false (Err (refusal.BranchReach at to)) is = refused_real w v (refusal.BranchReach at to) is.1
attempt_real plan w v false (Err (refusal.Unreadable g y)) is = refused_real w v (refusal.Unreadable g y) is.1
attempt_real plan w v false (Err refusal.NoMemory) is = ap (λ (x : Replaced). x.counts.real) is
