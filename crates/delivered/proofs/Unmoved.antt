-- What leaves the image, and what the live layouts, as they are.
use Rattle.std.proofs.Common.{◌≡◌, ℕ, zero, suc, List, [], ◌∷◌, ◌++◌, replicate, refl, sym, subst, ap, ◌∙◌}
use Rattle.std.specs.Prelude.{true, false, if◌then◌else◌, Bool}
use Rattle.plans.specs.declared.plan.Moved.{Moved}
use Rattle.sched_log.specs.declared.event.Event.{Event}
use Rattle.sched_log.specs.declared.event.Event.TheVariants.{Steps, Real, Till, Snap, Replace, Given, Retire}
use Rattle.sim_laws.specs.Steps.{is_layout}
use Rattle.world.specs.Worlds.{Replaced, kind_of, step_of}
use Rattle.world.specs.Replacing.{Replaces, over, done, refused}
use Rattle.world.specs.Retiring.{Retires}
use Rattle.world.specs.Retiring as retiring
use Rattle.world.specs.Records.{Snaps}
use Rattle.world.specs.Records as records
use Rattle.world.specs.Runs.{Atom, a_step, a_real_step, a_snap, a_replacement, a_retirement, IsRun, until_real}
use Rattle.delivered.specs.Events.{stretch, harts_in, stretched, turns, Obeys, Plays}

-- image and live layouts are as before
pub record SameCode (w v : Replaced) : Type 0 where
  pub image : v.image ≡ w.image
  pub lives : v.lives ≡ w.lives

unmoved : (w : Replaced) → SameCode w w
unmoved w = record { image = refl; lives = refl }

both_unmoved : (w u v : Replaced) → SameCode w u → SameCode u v → SameCode w v
both_unmoved w u v a b = record { image = b.image ∙ a.image; lives = b.lives ∙ a.lives }

pub step_unmoved : (h : ℕ) (w : Replaced) → SameCode w (step_of h w)
unfolding step_of
step_unmoved h w = record { image = refl; lives = refl }

pub real_unmoved : (n h : ℕ) (w : Replaced) → SameCode w (until_real n h w)
unfolding until_real
real_unmoved zero h w = unmoved w
real_unmoved (suc n) h w = by_kind (is_layout (kind_of h w)) (real_unmoved n h (step_of h w))
  where
    by_kind : (b : Bool) → SameCode (step_of h w) (until_real n h (step_of h w)) → SameCode w (if b then until_real n h (step_of h w) else step_of h w)
    by_kind true later = both_unmoved w (step_of h w) (until_real n h (step_of h w)) (step_unmoved h w) later
    by_kind false later = step_unmoved h w

-- atoms that move no code
abbrev pub AreSteps : List Atom → Type 0
AreSteps [] = Unit {0}
AreSteps (a_step h ∷ more) = AreSteps more
AreSteps (a_real_step h ∷ more) = AreSteps more
AreSteps (a_snap ∷ more) = ⊥
AreSteps (a_replacement plan ∷ more) = ⊥
AreSteps (a_retirement ∷ more) = ⊥

pub run_unmoved : (atoms : List Atom) (hs : List ℕ) (w v : Replaced) → AreSteps atoms → IsRun atoms hs w v → SameCode w v
run_unmoved [] hs w v steps r = subst (SameCode w) (sym r.1) (unmoved w)
run_unmoved (a_step h ∷ more) hs w v steps r =
    both_unmoved w r.0 v (subst (SameCode w) (sym r.2) (step_unmoved h w)) (run_unmoved more r.1 r.0 v steps r.4)
run_unmoved (a_real_step h ∷ more) hs w v steps r =
    both_unmoved w r.0 v (subst (SameCode w) (sym r.2) (real_unmoved 3 h w)) (run_unmoved more r.1 r.0 v steps r.4)
run_unmoved (a_snap ∷ more) hs w v steps r = absurd steps
run_unmoved (a_replacement plan ∷ more) hs w v steps r = absurd steps
run_unmoved (a_retirement ∷ more) hs w v steps r = absurd steps

pub steps_are : (n h : ℕ) → AreSteps (replicate n (a_step h))
steps_are zero h = tt
steps_are (suc n) h = steps_are n h

pub reals_are : (n h : ℕ) → AreSteps (replicate n (a_real_step h))
reals_are zero h = tt
reals_are (suc n) h = reals_are n h

stretch_are : (hs : List ℕ) (more : List Atom) → AreSteps more → AreSteps (stretch hs ++ more)
stretch_are [] more steps = steps
stretch_are (h ∷ hs) more steps = stretch_are hs more steps

pub turns_are : (n : ℕ) (w : Replaced) → AreSteps (turns n w)
turns_are zero w = tt
turns_are (suc n) w = stretch_are (harts_in w) (turns n (stretched (harts_in w) w)) (turns_are n (stretched (harts_in w) w))

-- a replacement leaves the image
pub replaced_image : (plan : List Moved) (w v : Replaced) → Replaces plan w v → v.image ≡ w.image
replaced_image plan w v (over ended is) = ap (λ (x : Replaced). x.image) is
replaced_image plan w v (done goes is) = ap (λ (x : Replaced). x.image) is.is
replaced_image plan w v (refused why room goes is_why is) = ap (λ (x : Replaced). x.image) is

-- and so does a retirement
pub retired_image : (w v : Replaced) → Retires w v → v.image ≡ w.image
retired_image w v (retiring.over ended is) = ap (λ (x : Replaced). x.image) is
retired_image w v (retiring.done n goes is) = ap (λ (x : Replaced). x.image) is.is

-- and a snapshot
pub snapped_image : (w v : Replaced) → Snaps w v → v.image ≡ w.image
snapped_image w v (records.over ended is) = ap (λ (x : Replaced). x.image) is
snapped_image w v (records.done goes is) = ap (λ (x : Replaced). x.image) is.is

-- ---- events
-- no event changes the image
pub event_image : (e : Event) (hs : List ℕ) (w v : Replaced) → Obeys e hs w v → v.image ≡ w.image
event_image (Steps h n) hs w v r = (run_unmoved (replicate n (a_step h)) hs w v (steps_are n h) r).image
event_image (Real h n) hs w v r = (run_unmoved (replicate n (a_real_step h)) hs w v (reals_are n h) r).image
event_image (Till n) hs w v r = (run_unmoved (turns n w) hs w v (turns_are n w) r).image
event_image Snap hs w v r = ap (λ (x : Replaced). x.image) r.4.1 ∙ snapped_image w r.0 r.2
event_image Replace hs w v r = ap (λ (x : Replaced). x.image) r.2.4.1 ∙ replaced_image r.0 w r.2.0 r.2.2.1
event_image (Given plan) hs w v r = ap (λ (x : Replaced). x.image) r.4.1 ∙ replaced_image plan w r.0 r.2.1
event_image Retire hs w v r = ap (λ (x : Replaced). x.image) r.4.1 ∙ retired_image w r.0 r.2

pub plays_image : (es : List Event) (hs : List ℕ) (w v : Replaced) → Plays es hs w v → v.image ≡ w.image
plays_image [] hs w v p = ap (λ (x : Replaced). x.image) p.1
plays_image (e ∷ es) hs w v p = plays_image es p.2 p.0 v p.5 ∙ event_image e p.1 w p.0 p.3
