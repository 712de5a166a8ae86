-- A run whose code is moved is one of the original machine.
use Rattle.std.proofs.Common.{◌≡◌, ℕ, List, [], ◌∷◌, ◌++◌, replicate, refl, sym, ap, subst, ◌∙◌}
use Rattle.image.specs.Picture.{Picture}
use Rattle.plans.specs.declared.plan.Moved.{Moved}
use Rattle.machine.specs.States.{State}
use Rattle.machine.specs.Steps.{original_run}
use Rattle.machine.proofs.Stays.{run_append}
use Rattle.sched_log.specs.declared.event.Event.{Event}
use Rattle.sched_log.specs.declared.event.Event.TheVariants.{Steps, Real, Till, Snap, Replace, Given, Retire}
use Rattle.sim_laws.specs.declared.stepped.Stepped.{Stepped}
use Rattle.sim_laws.specs.declared.stepped.Stepped.TheVariants as kind
use Rattle.sim_laws.specs.Steps.{original_after}
use Rattle.world.specs.Worlds.{Replaced, kind_of}
use Rattle.world.specs.Runs.{Atom, a_step, a_real_step, a_snap, a_replacement, a_retirement, IsRun, of_real, real_kind_of}
use Rattle.delivered.specs.Events.{turns, Obeys, Plays}
use Rattle.delivered.proofs.Standing.{Stands, Laws}
use Rattle.delivered.proofs.Unmoved.{step_unmoved, real_unmoved, AreSteps, steps_are, reals_are, turns_are, event_image}

-- what the original machine does meanwhile is its run of the harts of the real steps
meanwhile : (k : Stepped) (p : Picture) (h : ℕ) (o : State) → original_after k p h o ≡ original_run p (of_real k h) o
meanwhile kind.Real p h o = refl
meanwhile kind.Layout p h o = refl
meanwhile kind.Over p h o = refl

module _ (laws : Laws) where
  -- a step, and what comes after it
  then_follows : (k : Stepped) (h : ℕ) (w u v : Replaced) (later : List ℕ) (o : State) → u.image ≡ w.image
      → ((o : State) → Stands u o → Stands v (original_run u.image later o))
      → Stands u (original_after k w.image h o) → Stands v (original_run w.image (of_real k h ++ later) o)
  then_follows k h w u v later o same rest at =
      let e : original_run w.image (of_real k h ++ later) o ≡ original_run w.image later (original_after k w.image h o) =
      run_append w.image (of_real k h) later o ∙ ap (original_run w.image later) (sym (meanwhile k w.image h o)) in
      rw (e) (subst (λ p. Stands v (original_run p later (original_after k w.image h o))) same (rest (original_after k w.image h o) at))

  steps_follow : (atoms : List Atom) (hs : List ℕ) (w v : Replaced) (o : State) → AreSteps atoms → IsRun atoms hs w v → Stands w o → Stands v (original_run w.image hs o)
  steps_follow [] hs w v o steps r at = rw (r.0, r.1) at
  steps_follow (a_step h ∷ more) hs w v o steps r at =
      let same : r.0.image ≡ w.image = ap (λ (x : Replaced). x.image) r.2 ∙ (step_unmoved h w).image in
      let next : Stands r.0 (original_after (kind_of h w) w.image h o) = subst (λ x. Stands x (original_after (kind_of h w) w.image h o)) (sym r.2) (laws.step h w o at) in
      rw (r.3) (then_follows (kind_of h w) h w r.0 v r.1 o same (λ o at. steps_follow more r.1 r.0 v o steps r.4 at) next)
  steps_follow (a_real_step h ∷ more) hs w v o steps r at =
      let same : r.0.image ≡ w.image = ap (λ (x : Replaced). x.image) r.2 ∙ (real_unmoved 3 h w).image in
      let next : Stands r.0 (original_after (real_kind_of h w) w.image h o) = subst (λ x. Stands x (original_after (real_kind_of h w) w.image h o)) (sym r.2) (laws.real h w o at) in
      rw (r.3) (then_follows (real_kind_of h w) h w r.0 v r.1 o same (λ o at. steps_follow more r.1 r.0 v o steps r.4 at) next)
  steps_follow (a_snap ∷ more) hs w v o steps r at = absurd steps
  steps_follow (a_replacement plan ∷ more) hs w v o steps r at = absurd steps
  steps_follow (a_retirement ∷ more) hs w v o steps r at = absurd steps

  replacement_follows : (plan : List Moved) (hs : List ℕ) (w v : Replaced) (o : State) → IsRun (a_replacement plan ∷ []) hs w v → Stands w o → Stands v (original_run w.image hs o)
  replacement_follows plan hs w v o r at =
      let later : hs ≡ [] = r.3 ∙ r.4.0 in
      rw (later) (subst (λ x. Stands x o) (sym r.4.1) (laws.replaced plan w r.0 o r.2.0 r.2.1 at))

  pub event_follows : (e : Event) (hs : List ℕ) (w v : Replaced) (o : State) → Obeys e hs w v → Stands w o → Stands v (original_run w.image hs o)
  event_follows (Steps h n) hs w v o r at = steps_follow (replicate n (a_step h)) hs w v o (steps_are n h) r at
  event_follows (Real h n) hs w v o r at = steps_follow (replicate n (a_real_step h)) hs w v o (reals_are n h) r at
  event_follows (Till n) hs w v o r at = steps_follow (turns n w) hs w v o (turns_are n w) r at
  event_follows Snap hs w v o r at =
      let later : hs ≡ [] = r.3 ∙ r.4.0 in
      rw (later) (subst (λ x. Stands x o) (sym r.4.1) (laws.snapped w r.0 o r.2 at))
  event_follows Replace hs w v o r at = replacement_follows r.0 hs w v o r.2 at
  event_follows (Given plan) hs w v o r at = replacement_follows plan hs w v o r at
  event_follows Retire hs w v o r at =
      let later : hs ≡ [] = r.3 ∙ r.4.0 in
      rw (later) (subst (λ x. Stands x o) (sym r.4.1) (laws.retired w r.0 o r.2 at))

  pub plays_follow : (es : List Event) (hs : List ℕ) (w v : Replaced) (o : State) → Plays es hs w v → Stands w o → Stands v (original_run w.image hs o)
  plays_follow [] hs w v o r at = rw (r.0, r.1) at
  plays_follow (e ∷ es) hs w v o r at =
      let split : original_run w.image hs o ≡ original_run w.image r.2 (original_run w.image r.1 o) = ap (λ x. original_run w.image x o) r.4 ∙ run_append w.image r.1 r.2 o in
      let same : r.0.image ≡ w.image = event_image e r.1 w r.0 r.3 in
      let next : Stands r.0 (original_run w.image r.1 o) = event_follows e r.1 w r.0 o r.3 at in
      let rest : Stands v (original_run r.0.image r.2 (original_run w.image r.1 o)) =
      plays_follow es r.2 r.0 v (original_run w.image r.1 o) r.5 next in
      rw (split) (subst (λ p. Stands v (original_run p r.2 (original_run w.image r.1 o))) same rest)
