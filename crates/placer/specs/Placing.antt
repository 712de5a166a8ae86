-- A job's plan.
use Rattle.std.specs.Prelude.{◌≡◌, List, None}
use Rattle.image.specs.Picture.{Picture}
use Rattle.plans.specs.declared.plan.Moved.{Moved}
use Rattle.plans.specs.Given.{plan_fault}
use Rattle.placer.specs.declared.placed.Job.{Job}
use Rattle.placer.specs.Planned.{IsPlanFor}

-- a job and the parts of a plan
pub record Answer : Type 0 where
  pub job : Job
  pub plan : List Moved

-- the plan is the one of the job's profile, and one that the image takes
pub record IsPlaced (p : Picture) (a : Answer) : Type 0 where
  pub is : IsPlanFor p a.job.profile a.plan
  pub fits : plan_fault p a.plan ≡ None
