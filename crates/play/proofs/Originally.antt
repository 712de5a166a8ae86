-- A run that moves no code is the original run of its schedule.
use Rattle.std.proofs.Common.{◌≡◌, ℕ, zero, suc, Bool, true, false, List, [], ◌∷◌, ◌++◌, length, take, drop, replicate, refl, sym, ap, subst, ◌∙◌, arith}
use Rattle.std.specs.Prelude.{Some, ◌&&◌, is_some, slice_get, sum_by, if◌then◌else◌}
use Rattle.std.specs.List.{range_with_len}
use Rattle.std.proofs.lemmas.List.Sums.{sum_by-cons}
use Rattle.std.specs.Option.{option_map}
use Rattle.layout.specs.declared.point.Point.TheVariants.{Start}
use Rattle.layout.specs.Laid.{Laid}
use Rattle.layout.specs.Points.{live_at, in_range, here_point, read}
use Rattle.machine.specs.States.{State}
use Rattle.machine.specs.Harts.{is_live, hart_in}
use Rattle.machine.specs.Steps.{original_step, original_run}
use Rattle.machine.proofs.Stays.{run_append, stays}
use Rattle.sched_log.specs.Script.{plan_count}
use Rattle.sched_log.specs.declared.event.Event.{Event}
use Rattle.sched_log.specs.declared.event.Event.TheVariants.{Steps, Real, Till, Snap, Replace, Given, Retire}
use Rattle.sim_laws.specs.declared.stepped.Stepped.TheVariants as kind
use Rattle.sim_laws.specs.Origins.{is_layout_point, is_layout_step}
use Rattle.sim_laws.specs.Related.{Both}
use Rattle.sim_laws.specs.Steps.{original_after, is_layout, stepped}
use Rattle.sim_laws.proofs.HartLists.{no_left, no_right}
use Rattle.world.specs.Worlds.{Replaced, kind_of, step_of, code_of}
use Rattle.world.proofs.Following.{never_moved}
use Rattle.world.specs.Retiring.{without, Retires}
use Rattle.world.specs.Retiring as retiring
use Rattle.world.specs.Records.{Snaps}
use Rattle.world.specs.Records as records
use Rattle.world.specs.Runs.{Atom, a_step, a_real_step, IsRun, real_step_of, until_real}
use Rattle.delivered.specs.Events.{stretch, harts_in, stretched, turns, Obeys, Plays}
use Rattle.play.specs.Schedule as original
use Rattle.delivered.proofs.Standing.{Stands, Laws}
use Rattle.delivered.proofs.Unmoved.{step_unmoved, retired_image, snapped_image}

module _ {A B : Type 0} {R : A → B → Type 0} where
  same_length : (xs : List A) (ys : List B) → ((k : ℕ) → Both R (slice_get xs k) (slice_get ys k)) → length xs ≡ length ys
  same_length [] [] both = refl
  same_length [] (y ∷ ys) both = absurd (no_left (both 0))
  same_length (x ∷ xs) [] both = absurd (no_right (both 0))
  same_length (x ∷ xs) (y ∷ ys) both = ap suc (same_length xs ys (λ k. both (suc k)))

-- ---- a world in which no layout is live
no_layout_at : (w : Replaced) (a : ℕ) → w.lives ≡ [] → is_layout_step (code_of w) a ≡ false
unfolding is_layout_step live_at
no_layout_at w a none = by_region (in_range w.image.region a)
  where
    by_region : (b : Bool) → is_layout_point (code_of w) a (if b then option_map here_point (live_at w.lives a) else Some (Start a)) ≡ false
    by_region true = rw (none) refl
    by_region false = never_moved a (read (code_of w).text a)

no_layout : (w : Replaced) (h : ℕ) → w.lives ≡ [] → is_layout (kind_of h w) ≡ false
unfolding stepped
no_layout w h none = by_both (is_some w.machine.outcome) (is_live (hart_in w.machine.harts h).status)
  where
    by_both : (over live : Bool) → is_layout (if over then kind.Over else (if live && is_layout_step (code_of w) (hart_in w.machine.harts h).pc then kind.Layout else kind.Real)) ≡ false
    by_both true live = refl
    by_both false false = refl
    by_both false true = rw (no_layout_at w (hart_in w.machine.harts h).pc none) refl

-- so a real step is one step
real_is_step : (w : Replaced) (h : ℕ) → w.lives ≡ [] → real_step_of h w ≡ step_of h w
unfolding until_real
real_is_step w h none = rw (no_layout w h none) refl

over_is : (w : Replaced) (h : ℕ) → is_some w.machine.outcome ≡ true → kind_of h w ≡ kind.Over
unfolding stepped
over_is w h over = rw (over) refl

going_is : (w : Replaced) (h : ℕ) → w.lives ≡ [] → is_some w.machine.outcome ≡ false → kind_of h w ≡ kind.Real
unfolding stepped
going_is w h none going = by_live (is_live (hart_in w.machine.harts h).status)
  where
    by_live : (live : Bool) → (if is_some w.machine.outcome then kind.Over else (if live && is_layout_step (code_of w) (hart_in w.machine.harts h).pc then kind.Layout else kind.Real)) ≡ kind.Real
    by_live true = rw (going, no_layout_at w (hart_in w.machine.harts h).pc none) refl
    by_live false = rw (going) refl

-- of no layouts none is left
take_none : (n : ℕ) → take {A = Laid} n [] ≡ []
take_none zero = refl
take_none (suc n) = refl

drop_none : (n : ℕ) → drop {A = Laid} n [] ≡ []
drop_none zero = refl
drop_none (suc n) = refl

without_none : (ks : List ℕ) → without {A = Laid} ks [] ≡ []
without_none [] = refl
without_none (k ∷ ks) =
    ap (λ (ls : List Laid). take k ls ++ drop (suc k) ls) (without_none ks)
    ∙ ap (λ (ls : List Laid). ls ++ drop (suc k) []) (take_none k)
    ∙ drop_none (suc k)

none_left : (w v : Replaced) → Retires w v → w.lives ≡ [] → v.lives ≡ []
none_left w v (retiring.over ended is) none = ap (λ (x : Replaced). x.lives) is ∙ none
none_left w v (retiring.done n goes is) none = ap (λ (x : Replaced). x.lives) is.is ∙ ap (without is.gone) none ∙ without_none is.gone

same_lives : (w v : Replaced) → Snaps w v → v.lives ≡ w.lives
same_lives w v (records.over ended is) = ap (λ (x : Replaced). x.lives) is
same_lives w v (records.done goes is) = ap (λ (x : Replaced). x.lives) is.is

-- ---- a run that moves nothing
module _ (laws : Laws) where
  -- every step is one of the original machine
  step_plainly : (h : ℕ) (w : Replaced) (o : State) → w.lives ≡ [] → Stands w o → Stands (step_of h w) (original_step w.image h o)
  step_plainly h w o none at = by_outcome (is_some w.machine.outcome) refl
    where
      by_outcome : (b : Bool) → is_some w.machine.outcome ≡ b → Stands (step_of h w) (original_step w.image h o)
      by_outcome true over =
          let ended : is_some o.outcome ≡ true = ap is_some (sym at.related.states.outcome) ∙ over in
          rw (stays w.image (h ∷ []) o ended) (subst (λ k. Stands (step_of h w) (original_after k w.image h o)) (over_is w h over) (laws.step h w o at))
      by_outcome false going = subst (λ k. Stands (step_of h w) (original_after k w.image h o)) (going_is w h none going) (laws.step h w o at)

  -- what is known of a run that moves nothing
  pub record Plainly (w v : Replaced) (o : State) : Type 0 where
    pub image : v.image ≡ w.image
    pub lives : v.lives ≡ []
    pub related : Stands v o

  one_plainly : (h : ℕ) (w : Replaced) (o : State) → w.lives ≡ [] → Stands w o → Plainly w (step_of h w) (original_step w.image h o)
  one_plainly h w o none at = record { image = (step_unmoved h w).image; lives = (step_unmoved h w).lives ∙ none; related = step_plainly h w o none at }

  next_plainly : (w u v : Replaced) (o : State) (hs : List ℕ) → Plainly w u o → Plainly u v (original_run u.image hs o) → Plainly w v (original_run w.image hs o)
  next_plainly w u v o hs a b = record {
    image = b.image ∙ a.image;
    lives = b.lives;
    related = subst (λ p. Stands v (original_run p hs o)) a.image b.related;
  }

  steps_plainly : (n h : ℕ) (hs : List ℕ) (w v : Replaced) (o : State) → IsRun (replicate n (a_step h)) hs w v → w.lives ≡ [] → Stands w o → Plainly w v (original_run w.image (replicate n h) o)
  steps_plainly zero h hs w v o r none at = rw (r.1) (record { image = refl; lives = none; related = at })
  steps_plainly (suc n) h hs w v o r none at =
      let one : Plainly w r.0 (original_step w.image h o) = subst (λ x. Plainly w x (original_step w.image h o)) (sym r.2) (one_plainly h w o none at) in
      next_plainly w r.0 v (original_step w.image h o) (replicate n h) one (steps_plainly n h r.1 r.0 v (original_step w.image h o) r.4 one.lives one.related)

  real_plainly : (h : ℕ) (w : Replaced) (o : State) → w.lives ≡ [] → Stands w o → Plainly w (real_step_of h w) (original_step w.image h o)
  real_plainly h w o none at = subst (λ x. Plainly w x (original_step w.image h o)) (sym (real_is_step w h none)) (one_plainly h w o none at)

  reals_plainly : (n h : ℕ) (hs : List ℕ) (w v : Replaced) (o : State) → IsRun (replicate n (a_real_step h)) hs w v → w.lives ≡ [] → Stands w o → Plainly w v (original_run w.image (replicate n h) o)
  reals_plainly zero h hs w v o r none at = rw (r.1) (record { image = refl; lives = none; related = at })
  reals_plainly (suc n) h hs w v o r none at =
      let one : Plainly w r.0 (original_step w.image h o) = subst (λ x. Plainly w x (original_step w.image h o)) (sym r.2) (real_plainly h w o none at) in
      next_plainly w r.0 v (original_step w.image h o) (replicate n h) one (reals_plainly n h r.1 r.0 v (original_step w.image h o) r.4 one.lives one.related)

  stretched_plainly : (hs : List ℕ) (w : Replaced) (o : State) → w.lives ≡ [] → Stands w o → Plainly w (stretched hs w) (original_run w.image hs o)
  stretched_plainly [] w o none at = record { image = refl; lives = none; related = at }
  stretched_plainly (h ∷ hs) w o none at =
      let one : Plainly w (real_step_of h w) (original_step w.image h o) = real_plainly h w o none at in
      next_plainly w (real_step_of h w) (stretched hs (real_step_of h w)) (original_step w.image h o) hs one (stretched_plainly hs (real_step_of h w) (original_step w.image h o) one.lives one.related)

  -- what comes after one turn
  after_turn : (ks : List ℕ) (more : List Atom) (hs : List ℕ) (w v : Replaced) → IsRun (stretch ks ++ more) hs w v → (later : List ℕ) × IsRun more later (stretched ks w) v
  after_turn [] more hs w v r = (hs, r)
  after_turn (k ∷ ks) more hs w v r = subst (λ x. (later : List ℕ) × IsRun more later (stretched ks x) v) r.2 (after_turn ks more r.1 r.0 v r.4)

  turns_plainly : (n : ℕ) (hs : List ℕ) (w v : Replaced) (o : State) → IsRun (turns n w) hs w v → w.lives ≡ [] → Stands w o → Plainly w v (original_run w.image (original.turns w.image n o) o)
  turns_plainly zero hs w v o r none at = rw (r.1) (record { image = refl; lives = none; related = at })
  turns_plainly (suc n) hs w v o r none at =
      let same : harts_in w ≡ original.turn o = ap (range_with_len 0) (same_length w.machine.harts o.harts at.related.states.harts) in
      let u : Replaced = stretched (harts_in w) w in
      let x : State = original_run w.image (original.turn o) o in
      let one : Plainly w u x = subst (λ ks. Plainly w u (original_run w.image ks o)) same (stretched_plainly (harts_in w) w o none at) in
      let rest : (later : List ℕ) × IsRun (turns n u) later u v = after_turn (harts_in w) (turns n u) hs w v r in
      let two : Plainly u v (original_run u.image (original.turns u.image n x) x) = turns_plainly n rest.0 u v x rest.1 one.lives one.related in
      rw (run_append w.image (original.turn o) (original.turns w.image n x) o)
      (next_plainly w u v x (original.turns w.image n x) one (subst (λ p. Plainly u v (original_run u.image (original.turns p n x) x)) one.image two))

  -- where no layout is live, none is given up
  retired_plainly : (w v : Replaced) (o : State) → Retires w v → w.lives ≡ [] → Stands w o → Plainly w v o
  retired_plainly w v o is none at = record { image = retired_image w v is; lives = none_left w v is none; related = laws.retired w v o is at }

  -- a snapshot moves nothing
  snapped_plainly : (w v : Replaced) (o : State) → Snaps w v → w.lives ≡ [] → Stands w o → Plainly w v o
  snapped_plainly w v o is none at = record { image = snapped_image w v is; lives = same_lives w v is ∙ none; related = laws.snapped w v o is at }

  event_plainly : (e : Event) (hs : List ℕ) (w v : Replaced) (o : State) → plan_count e ≡ 0 → Obeys e hs w v → w.lives ≡ [] → Stands w o
      → Plainly w v (original_run w.image (original.harts_of w.image e o) o)
  event_plainly (Steps h n) hs w v o none r lives at = steps_plainly n h hs w v o r lives at
  event_plainly (Real h n) hs w v o none r lives at = reals_plainly n h hs w v o r lives at
  event_plainly (Till n) hs w v o none r lives at = turns_plainly n hs w v o r lives at
  event_plainly Snap hs w v o none r lives at = subst (λ x. Plainly w x o) (sym r.4.1) (snapped_plainly w r.0 o r.2 lives at)
  event_plainly Replace hs w v o none r lives at = absurd (omega (arith, none))
  event_plainly (Given plan) hs w v o none r lives at = absurd (omega (arith, none))
  event_plainly Retire hs w v o none r lives at = subst (λ x. Plainly w x o) (sym r.4.1) (retired_plainly w r.0 o r.2 lives at)

  pub plays_plainly : (es : List Event) (hs : List ℕ) (w v : Replaced) (o : State) → sum_by plan_count es ≡ 0 → Plays es hs w v → w.lives ≡ [] → Stands w o
      → Plainly w v (original_run w.image (original.schedule w.image es o) o)
  plays_plainly [] hs w v o none r lives at = rw (r.1) (record { image = refl; lives = lives; related = at })
  plays_plainly (e ∷ es) hs w v o none r lives at =
      let sum = sum_by-cons plan_count e es in
      let first : List ℕ = original.harts_of w.image e o in
      let x : State = original_run w.image first o in
      let one : Plainly w r.0 x = event_plainly e r.1 w r.0 o (omega (arith, sum, none)) r.3 lives at in
      let two : Plainly r.0 v (original_run r.0.image (original.schedule r.0.image es x) x) = plays_plainly es r.2 r.0 v x (omega (arith, sum, none)) r.5 one.lives one.related in
      rw (run_append w.image first (original.schedule w.image es x) o)
      (next_plainly w r.0 v x (original.schedule w.image es x) one (subst (λ p. Plainly r.0 v (original_run r.0.image (original.schedule p es x) x)) one.image two))
