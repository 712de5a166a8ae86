-- What a world's steps and replacements do, as runs need it.
use Rattle.std.proofs.Common.{◌≡◌, ℕ, List, [], ◌++◌}
use Rattle.std.specs.Prelude.{None}
use Rattle.image.specs.Picture.{Picture, IsKept}
use Rattle.branch_ring.specs.declared.counted.Counted.{Counted}
use Rattle.guest_sys.specs.State.{IsOrderly}
use Rattle.plans.specs.declared.plan.Moved.{Moved}
use Rattle.machine.specs.States.{State}
use Rattle.machine.specs.Start.{start_of}
use Rattle.machine.specs.Steps.{original_run}
use Rattle.sim_laws.specs.Steps.{original_after}
use Rattle.world.specs.Worlds.{Replaced, Related, kind_of, step_of, started}
use Rattle.placer.specs.Planned.{IsPlanFor}
use Rattle.plans.specs.Given.{plan_fault}
use Rattle.world.specs.Replacing.{Replaces}
use Rattle.world.specs.Records.{Records, Snaps}
use Rattle.world.specs.Retiring.{Retires}
use Rattle.world.specs.Runs.{Atom, IsRun, real_kind_of, real_step_of}

-- the world stands for a state of the original machine, and its system is one that a run can come to
pub record Stands (w : Replaced) (o : State) : Type 0 where
  pub related : Related w o
  pub orderly : IsOrderly w.machine.system

pub record Laws : Type 0 where
  pub start : (image : Picture) (ring : ℕ) (input : List ℕ) → IsKept image → Stands (started image ring input) (start_of image input)
  pub step : (h : ℕ) (w : Replaced) (o : State) → Stands w o → Stands (step_of h w) (original_after (kind_of h w) w.image h o)
  pub real : (h : ℕ) (w : Replaced) (o : State) → Stands w o → Stands (real_step_of h w) (original_after (real_kind_of h w) w.image h o)
  pub replaced : (plan : List Moved) (w v : Replaced) (o : State) → plan_fault w.image plan ≡ None → Replaces plan w v → Stands w o → Stands v o
  pub retired : (w v : Replaced) (o : State) → Retires w v → Stands w o → Stands v o
  pub snapped : (w v : Replaced) (o : State) → Snaps w v → Stands w o → Stands v o
  pub first_records : (image : Picture) (ring : ℕ) (input : List ℕ) → Records ring (started image ring input) (start_of image input) []
  pub records : (atoms : List Atom) (hs gs : List ℕ) (ring : ℕ) (w v : Replaced) (o : State) → IsOrderly w.machine.system → IsRun atoms hs w v
      → Related w (original_run w.image gs o) → Records ring w o gs → Records ring v o (gs ++ hs)

-- a replacement has one result, and so have a retirement, a snapshot and the plan of a profile
pub record OneResult : Type 0 where
  pub replaced : (plan : List Moved) (w u v : Replaced) (o : State) → Stands w o → Replaces plan w u → Replaces plan w v → u ≡ v
  pub retired : (w u v : Replaced) → Retires w u → Retires w v → u ≡ v
  pub snapped : (w u v : Replaced) → Snaps w u → Snaps w v → u ≡ v
  pub plan : (image : Picture) (profile : List Counted) (p q : List Moved) → IsPlanFor image profile p → IsPlanFor image profile q → p ≡ q
