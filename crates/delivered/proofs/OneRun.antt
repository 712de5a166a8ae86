-- Events make one world, by the real steps of the same harts.
use Rattle.std.proofs.Common.{◌≡◌, ℕ, List, [], ◌∷◌, ◌++◌, replicate, ap, sym, subst, ◌∙◌}
use Rattle.sched_log.specs.declared.event.Event.{Event}
use Rattle.sched_log.specs.declared.event.Event.TheVariants.{Steps, Real, Till, Snap, Replace, Given as Plan, Retire}
use Rattle.machine.specs.States.{State}
use Rattle.machine.specs.Steps.{original_run}
use Rattle.world.specs.Worlds.{Replaced}
use Rattle.world.specs.Replacing.{Replaces}
use Rattle.world.specs.Runs.{Atom, a_step, a_real_step, a_snap, a_replacement, a_retirement, IsRun, harts_of}
use Rattle.delivered.specs.Events.{turns, Obeys, Plays}
use Rattle.delivered.proofs.Standing.{Stands, Laws, OneResult}
use Rattle.delivered.proofs.Following.{event_follows}
use Rattle.delivered.proofs.Unmoved.{AreSteps, steps_are, reals_are, turns_are}

-- steps have one result
one_of_steps : (atoms : List Atom) (hs ks : List ℕ) (w u v : Replaced) → AreSteps atoms → IsRun atoms hs w u → IsRun atoms ks w v → u ≡ v
one_of_steps [] hs ks w u v steps a b = a.1 ∙ sym b.1
one_of_steps (a_step h ∷ more) hs ks w u v steps a b =
    one_of_steps more a.1 b.1 a.0 u v steps a.4 (subst (λ x. IsRun more b.1 x v) (b.2 ∙ sym a.2) b.4)
one_of_steps (a_real_step h ∷ more) hs ks w u v steps a b =
    one_of_steps more a.1 b.1 a.0 u v steps a.4 (subst (λ x. IsRun more b.1 x v) (b.2 ∙ sym a.2) b.4)
one_of_steps (a_snap ∷ more) hs ks w u v steps a b = absurd steps
one_of_steps (a_replacement plan ∷ more) hs ks w u v steps a b = absurd steps
one_of_steps (a_retirement ∷ more) hs ks w u v steps a b = absurd steps

module _ (laws : Laws) (one : OneResult) where
  one_of_event : (e : Event) (hs ks : List ℕ) (w u v : Replaced) (o : State) → Stands w o → Obeys e hs w u → Obeys e ks w v → u ≡ v
  one_of_event (Steps h n) hs ks w u v o at a b = one_of_steps (replicate n (a_step h)) hs ks w u v (steps_are n h) a b
  one_of_event (Real h n) hs ks w u v o at a b = one_of_steps (replicate n (a_real_step h)) hs ks w u v (reals_are n h) a b
  one_of_event (Till n) hs ks w u v o at a b = one_of_steps (turns n w) hs ks w u v (turns_are n w) a b
  one_of_event Snap hs ks w u v o at a b = a.4.1 ∙ one.snapped w a.0 b.0 a.2 b.2 ∙ sym b.4.1
  one_of_event Replace hs ks w u v o at a b =
      let same : b.0 ≡ a.0 = one.plan w.image w.snapshot b.0 a.0 b.1 a.1 in
      let second : Replaces a.0 w b.2.0 = subst (λ plan. Replaces plan w b.2.0) same b.2.2.1 in
      a.2.4.1 ∙ one.replaced a.0 w a.2.0 b.2.0 o at a.2.2.1 second ∙ sym b.2.4.1
  one_of_event (Plan plan) hs ks w u v o at a b = a.4.1 ∙ one.replaced plan w a.0 b.0 o at a.2.1 b.2.1 ∙ sym b.4.1
  one_of_event Retire hs ks w u v o at a b = a.4.1 ∙ one.retired w a.0 b.0 a.2 b.2 ∙ sym b.4.1

  pub one_end : (es : List Event) (hs ks : List ℕ) (w u v : Replaced) (o : State) → Stands w o → Plays es hs w u → Plays es ks w v → u ≡ v
  one_end [] hs ks w u v o at a b = a.1 ∙ sym b.1
  one_end (e ∷ es) hs ks w u v o at a b =
      let same : a.0 ≡ b.0 = one_of_event e a.1 b.1 w a.0 b.0 o at a.3 b.3 in
      let next : Stands a.0 (original_run w.image a.1 o) = event_follows laws e a.1 w a.0 o a.3 at in
      one_end es a.2 b.2 a.0 u v (original_run w.image a.1 o) next a.5 (subst (λ x. Plays es b.2 x v) (sym same) b.5)

-- ---- and so are the harts of the real steps
steps_harts : (atoms : List Atom) (hs ks : List ℕ) (w u v : Replaced) → AreSteps atoms → IsRun atoms hs w u → IsRun atoms ks w v → hs ≡ ks
steps_harts [] hs ks w u v steps a b = a.0 ∙ sym b.0
steps_harts (a_step h ∷ more) hs ks w u v steps a b =
    a.3 ∙ ap (λ t. harts_of (a_step h) w ++ t) (steps_harts more a.1 b.1 a.0 u v steps a.4 (subst (λ x. IsRun more b.1 x v) (b.2 ∙ sym a.2) b.4)) ∙ sym b.3
steps_harts (a_real_step h ∷ more) hs ks w u v steps a b =
    a.3 ∙ ap (λ t. harts_of (a_real_step h) w ++ t) (steps_harts more a.1 b.1 a.0 u v steps a.4 (subst (λ x. IsRun more b.1 x v) (b.2 ∙ sym a.2) b.4)) ∙ sym b.3
steps_harts (a_snap ∷ more) hs ks w u v steps a b = absurd steps
steps_harts (a_replacement plan ∷ more) hs ks w u v steps a b = absurd steps
steps_harts (a_retirement ∷ more) hs ks w u v steps a b = absurd steps

event_harts : (e : Event) (hs ks : List ℕ) (w u v : Replaced) → Obeys e hs w u → Obeys e ks w v → hs ≡ ks
event_harts (Steps h n) hs ks w u v a b = steps_harts (replicate n (a_step h)) hs ks w u v (steps_are n h) a b
event_harts (Real h n) hs ks w u v a b = steps_harts (replicate n (a_real_step h)) hs ks w u v (reals_are n h) a b
event_harts (Till n) hs ks w u v a b = steps_harts (turns n w) hs ks w u v (turns_are n w) a b
event_harts Snap hs ks w u v a b = a.3 ∙ a.4.0 ∙ sym b.4.0 ∙ sym b.3
event_harts Replace hs ks w u v a b = a.2.3 ∙ a.2.4.0 ∙ sym b.2.4.0 ∙ sym b.2.3
event_harts (Plan plan) hs ks w u v a b = a.3 ∙ a.4.0 ∙ sym b.4.0 ∙ sym b.3
event_harts Retire hs ks w u v a b = a.3 ∙ a.4.0 ∙ sym b.4.0 ∙ sym b.3

module _ (laws : Laws) (one : OneResult) where
  pub one_schedule : (es : List Event) (hs ks : List ℕ) (w u v : Replaced) (o : State) → Stands w o → Plays es hs w u → Plays es ks w v → hs ≡ ks
  one_schedule [] hs ks w u v o at a b = a.0 ∙ sym b.0
  one_schedule (e ∷ es) hs ks w u v o at a b =
      let same : a.0 ≡ b.0 = one_of_event laws one e a.1 b.1 w a.0 b.0 o at a.3 b.3 in
      let next : Stands a.0 (original_run w.image a.1 o) = event_follows laws e a.1 w a.0 o a.3 at in
      let first : a.1 ≡ b.1 = event_harts e a.1 b.1 w a.0 b.0 a.3 b.3 in
      let later : a.2 ≡ b.2 = one_schedule es a.2 b.2 a.0 u v (original_run w.image a.1 o) next a.5 (subst (λ x. Plays es b.2 x v) (sym same) b.5) in
      a.4 ∙ ap (λ t. a.1 ++ t) later ∙ ap (λ f. f ++ b.2) first ∙ sym b.4
