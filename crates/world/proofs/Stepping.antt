-- Steps up to a real one, one after another, and real steps one after another.
use Rattle.std.proofs.Common.{◌≡◌, ℕ, zero, suc, ◌+◌, ◌-◌, ◌<◌, Bool, true, false, cond, replicate, refl, sym, ap, ◌∙◌, subst, arith, add-one}
use Rattle.std.specs.Prelude.{is_some}
use Rattle.guest_sys.specs.State.{IsOrderly}
use Rattle.machine.specs.Harts.{is_live, hart_in}
use Rattle.machine.specs.States.{State}
use Rattle.machine.specs.Steps.{original_step, original_run}
use Rattle.image.specs.Picture.{Picture}
use Rattle.sim_laws.specs.declared.stepped.Stepped.{Stepped}
use Rattle.sim_laws.specs.declared.stepped.Stepped.TheVariants.{Real, Layout, Over}
use Rattle.sim_laws.specs.Origins.{origin}
use Rattle.sim_laws.specs.Steps.{replaced_step, is_layout, kind_until}
use Rattle.sim_laws.proofs.LayoutSteps.{layout_of}
use Rattle.sim_laws.proofs.Orderly.{replaced_orderly}
use Rattle.world.specs.Worlds.{Replaced, code_of, IsSound, Related, kind_of, step_of, counted}
use Rattle.world.specs.Runs.{is_over, until_real, real_step_of, real_kind_of, real_steps_of}
use Rattle.world.specs.Rings.{with_transfer}
use Rattle.world.proofs.Noting.{ended_none}
use Rattle.world.proofs.Following.{ended_stays, ended_over, real_over, real_follows}

pub sound_after : (w v : Replaced) (h : ℕ) → v ≡ step_of h w → IsSound w.image w.text w.lives w.numbers w.free → IsSound v.image v.text v.lives v.numbers v.free
unfolding step_of
sound_after w v h e s = rw e s

pub layout_live : (h : ℕ) (w : Replaced) → is_layout (kind_of h w) ≡ true → is_live (hart_in w.machine.harts h).status ≡ true
layout_live h w l = (layout_of (code_of w) h w.machine l).live

-- ---- a step that isn't one of layouts alone is made, and one that is, left
pub other_made : (h : ℕ) (w v : Replaced) (k : Stepped) → k ≡ kind_of h w → is_layout k ≡ false → v ≡ cond (is_layout (kind_of h w)) w (step_of h w) → v ≡ step_of h w
other_made h w v k e f g = g ∙ ap (λ b. cond b w (step_of h w)) (sym (ap is_layout e) ∙ f)

pub other_left : (h : ℕ) (w v : Replaced) (k : Stepped) → k ≡ kind_of h w → is_layout k ≡ true → v ≡ cond (is_layout (kind_of h w)) w (step_of h w) → v ≡ w
other_left h w v k e f g = g ∙ ap (λ b. cond b w (step_of h w)) (sym (ap is_layout e) ∙ f)

-- the next step is one of layouts alone
pub next_layout : (h : ℕ) (w v : Replaced) (k : Stepped) → k ≡ kind_of h w → is_layout k ≡ true → v ≡ w → is_layout (kind_of h v) ≡ true
next_layout h w v k e f g = ap (λ (x : Replaced). is_layout (kind_of h x)) g ∙ sym (ap is_layout e) ∙ f

-- ---- up to a real step
pub kind_stops : (n h : ℕ) (w : Replaced) (k : Stepped) → k ≡ kind_of h w → is_layout k ≡ false → k ≡ kind_until w.image (code_of w) (suc n) h w.machine
unfolding kind_until
kind_stops n h w k e f =
    e ∙ sym (ap (λ b. cond b (kind_until w.image (code_of w) n h (replaced_step w.image (code_of w) h w.machine)) (kind_of h w)) (sym (ap is_layout e) ∙ f))

pub step_stops : (n h : ℕ) (w v : Replaced) (k : Stepped) → k ≡ kind_of h w → is_layout k ≡ false → v ≡ step_of h w → v ≡ until_real (suc n) h w
unfolding until_real
step_stops n h w v k e f g = g ∙ sym (ap (λ b. cond b (until_real n h (step_of h w)) (step_of h w)) (sym (ap is_layout e) ∙ f))

pub kind_goes_on : (n h : ℕ) (w v : Replaced) → v ≡ step_of h w → is_layout (kind_of h w) ≡ true → kind_until v.image (code_of v) n h v.machine ≡ kind_until w.image (code_of w) (suc n) h w.machine
unfolding kind_until step_of
kind_goes_on n h w v e l =
    ap (λ (x : Replaced). kind_until x.image (code_of x) n h x.machine) e
    ∙ sym (ap (λ b. cond b (kind_until w.image (code_of w) n h (replaced_step w.image (code_of w) h w.machine)) (kind_of h w)) l)

pub step_goes_on : (n h : ℕ) (w v : Replaced) → v ≡ step_of h w → is_layout (kind_of h w) ≡ true → until_real n h v ≡ until_real (suc n) h w
unfolding until_real
step_goes_on n h w v e l = ap (until_real n h) e ∙ sym (ap (λ b. cond b (until_real n h (step_of h w)) (step_of h w)) l)

last_of : (k : Stepped) → k ≡ cond (is_layout k) Layout k
last_of Real = refl
last_of Layout = refl
last_of Over = refl

pub kind_last : (h : ℕ) (w : Replaced) (k : Stepped) → k ≡ kind_of h w → k ≡ kind_until w.image (code_of w) 1 h w.machine
unfolding kind_until
kind_last h w k e = e ∙ last_of (kind_of h w)

pub step_last : (h : ℕ) (w v : Replaced) → v ≡ step_of h w → v ≡ until_real 1 h w
unfolding until_real
step_last h w v e = e ∙ either (is_layout (kind_of h w))
  where
    either : (b : Bool) → step_of h w ≡ cond b (step_of h w) (step_of h w)
    either true = refl
    either false = refl

-- ---- real steps
pub steps_more : (n h : ℕ) (w v new : Replaced) → v ≡ real_steps_of n h w → new ≡ real_step_of h v → new ≡ real_steps_of (n + 1) h w
steps_more n h w v new e f = rw (add-one n) (f ∙ ap (real_step_of h) e ∙ turn n w)
  where
    turn : (m : ℕ) (u : Replaced) → real_step_of h (real_steps_of m h u) ≡ real_steps_of m h (real_step_of h u)
    turn zero u = refl
    turn (suc m) u = turn m (real_step_of h u)

pub ended_step : (h : ℕ) (w : Replaced) → is_some w.machine.outcome ≡ true → step_of h w ≡ w
unfolding step_of replaced_step
ended_step h w e =
    (λ i. record w {
      machine = ended_stays (code_of w).word (origin (code_of w)) w.image h w.machine e i;
      counts = counted (ended_over (code_of w) h w.machine e i) w.counts;
      rings = with_transfer h (ended_none w.image (code_of w) h w.machine e i) w.rings;
    })

pub ended_real : (h : ℕ) (w : Replaced) → is_some w.machine.outcome ≡ true → real_step_of h w ≡ w
unfolding until_real
ended_real h w e = ap (λ k. cond (is_layout k) (until_real 2 h (step_of h w)) (step_of h w)) (ended_over (code_of w) h w.machine e) ∙ ended_step h w e

pub ended_steps : (n h : ℕ) (w : Replaced) → is_some w.machine.outcome ≡ true → real_steps_of n h w ≡ w
ended_steps zero h w e = refl
ended_steps (suc n) h w e = ap (real_steps_of n h) (ended_real h w e) ∙ ended_steps n h w e

split : (m n h : ℕ) (w : Replaced) → real_steps_of (m + n) h w ≡ real_steps_of n h (real_steps_of m h w)
split zero n h w = let e : zero + n ≡ n = omega arith in ap (λ k. real_steps_of k h w) e
split (suc m) n h w = let e : suc m + n ≡ suc (m + n) = omega arith in ap (λ k. real_steps_of k h w) e ∙ split m n h (real_step_of h w)

over_kind : (k : Stepped) → is_over k ≡ true → k ≡ Over
over_kind Over e = refl
over_kind Real e = absurd (cc)
over_kind Layout e = absurd (cc)

-- once the run has ended the steps that are left change nothing
pub steps_over : (n all h : ℕ) (w v new : Replaced) (k : Stepped) → n < all → IsSound v.image v.text v.lives v.numbers v.free → v ≡ real_steps_of n h w
    → k ≡ real_kind_of h v → is_over k ≡ true → new ≡ real_step_of h v → new ≡ real_steps_of all h w
steps_over n all h w v new k lt s e f o g =
    let ended = (real_over v h k s f).0 (over_kind k o) in
    let whole : all ≡ n + (all - n) = omega (arith, lt) in
    g ∙ ended_real h v ended ∙ sym (ap (λ m. real_steps_of m h w) whole ∙ split n (all - n) h w ∙ ap (real_steps_of (all - n) h) (sym e) ∙ ended_steps (all - n) h v ended)

-- ---- what the original machine does meanwhile
pub until_orderly : (n h : ℕ) (w : Replaced) → IsOrderly w.machine.system → IsOrderly (until_real n h w).machine.system
unfolding until_real step_of
until_orderly zero h w q = q
until_orderly (suc n) h w q =
    let one = replaced_orderly w.image (code_of w) h w.machine q in
    either (is_layout (kind_of h w)) (until_orderly n h (step_of h w) one) one
  where
    either : (b : Bool) → IsOrderly (until_real n h (step_of h w)).machine.system → IsOrderly (step_of h w).machine.system
        → IsOrderly (cond b (until_real n h (step_of h w)) (step_of h w)).machine.system
    either true f g = f
    either false f g = g

pub until_image : (n h : ℕ) (w : Replaced) → (until_real n h w).image ≡ w.image
unfolding until_real step_of
until_image zero h w = refl
until_image (suc n) h w = either (is_layout (kind_of h w)) (until_image n h (step_of h w))
  where
    either : (b : Bool) → (until_real n h (step_of h w)).image ≡ w.image → (cond b (until_real n h (step_of h w)) (step_of h w)).image ≡ w.image
    either true f = f
    either false f = refl

steps_follow : (n h : ℕ) (w : Replaced) (o : State) → IsOrderly w.machine.system → Related w o → Related (real_steps_of n h w) (original_run w.image (replicate n h) o)
steps_follow zero h w o q r = r
steps_follow (suc n) h w o q r =
    let one = real_follows w (real_step_of h w) h q refl o r in
    subst (λ (p : Picture). Related (real_steps_of n h (real_step_of h w)) (original_run p (replicate n h) (original_step w.image h o))) (until_image 3 h w)
    (steps_follow n h (real_step_of h w) (original_step w.image h o) (until_orderly 3 h w q) one)

pub run_follows : (n h : ℕ) (w new : Replaced) → IsOrderly w.machine.system → new ≡ real_steps_of n h w → (o : State) → Related w o → Related new (original_run w.image (replicate n h) o)
run_follows n h w new q e o r = subst (λ (x : Replaced). Related x (original_run w.image (replicate n h) o)) (sym e) (steps_follow n h w o q r)
