-- A world's step, from its code and from the law of a step.
use Rattle.std.proofs.Common.{◌≡◌, ◌≢◌, ℕ, zero, suc, Bool, true, false, cond, not, refl, sym, ap, ◌∙◌, subst}
use Rattle.std.specs.Prelude.{Option, Some, None, List, ◌==◌, ◌&&◌, ◌↔◌, is_some}
use Rattle.std.proofs.lemmas.Bool.{eq-eqb, and_parts}
use Rattle.rv_isa.specs.declared.instr.Instr.{Instr}
use Rattle.rv_isa.specs.declared.instr.Instr.TheVariants as instr
use Rattle.oc_base.specs.declared.range.Range.{Range}
use Rattle.guest_sys.specs.State.{IsOrderly}
use Rattle.image.specs.declared.ranges.TextRange.{TextRange}
use Rattle.image.specs.Texts.{word_at}
use Rattle.image.specs.Picture.{Picture, IsKept}
use Rattle.layout.specs.Laid.{Laid}
use Rattle.layout.specs.Points.{Code}
use Rattle.layout.specs.Rows.{Renders}
use Rattle.machine.specs.Harts.{is_live, hart_in}
use Rattle.machine.specs.States.{State}
use Rattle.machine.specs.Steps.{can_step, on_fetched, settled, step_with, original_step}
use Rattle.sim_laws.specs.declared.stepped.Stepped.{Stepped}
use Rattle.sim_laws.specs.declared.stepped.Stepped.TheVariants.{Real, Layout, Over}
use Rattle.sim_laws.specs.Origins.{is_moved_address, origin_of, origin, is_layout_step}
use Rattle.sim_laws.specs.Codes.{IsCodeOf}
use Rattle.sim_laws.specs.Steps.{replaced_step, stepped, original_after, is_layout, kind_until}
use Rattle.sim_laws.proofs.CodeFacts.{code_is}
use Rattle.sim_laws.proofs.Forward.{forward}
use Rattle.sim_laws.proofs.LayoutSteps.{layout_of, moves_alone, real_is_real}
use Rattle.world.specs.Worlds.{Replaced, code_in, code_of, point_at, IsSound, Related, kind_of, step_of}
use Rattle.world.specs.Runs.{until_real, real_step_of, real_kind_of}

-- no word is moved to its own place
pub never_moved : (a : ℕ) (o : Option Instr) → is_moved_address a a o ≡ false
never_moved a None = refl
never_moved a (Some (instr.Auipc rd imm)) = by_rd (rd == 0) (a == a) (eq-eqb a a refl)
  where
    by_rd : (x y : Bool) → y ≡ true → (not x && not y) ≡ false
    by_rd true y e = refl
    by_rd false y e = ap not e
never_moved a (Some i) = refl

-- what was fetched before the step is what the step fetches
pub stepped_on : (p : Picture) (text : List TextRange) (lives : List Laid) (r : Range) (h : ℕ) (m n : State) (word : Option ℕ) → can_step h m ≡ true → r ≡ p.region
    → word ≡ (code_in p text lives).word (hart_in m.harts h).pc
    → n ≡ settled (on_fetched (λ a. origin_of a (point_at r lives a)) p h word m) → n ≡ replaced_step p (code_in p text lives) h m
unfolding replaced_step step_with origin
stepped_on p text lives r h m n word can f w e = e ∙ rw (f, w, can) refl

-- a live hart that was made
pub can_live : (h : ℕ) (m : State) → is_some m.outcome ≡ false → is_live (hart_in m.harts h).status ≡ true → can_step h m ≡ true
can_live h m e l = rw (e, l) refl

pub can_is_live : (h : ℕ) (m : State) → can_step h m ≡ true → is_live (hart_in m.harts h).status ≡ true
can_is_live h m e = (and_parts (not (is_some m.outcome)) (is_live (hart_in m.harts h).status) e).1

-- ---- the law of a step, for a world
pub code_sound : (w : Replaced) → IsSound w.image w.text w.lives w.numbers w.free → IsCodeOf w.image (code_of w)
code_sound w s = code_is w.image (word_at w.text) w.lives (record { laid = s.placed.laid; hops = s.hops })

pub step_follows : (w new : Replaced) (h : ℕ) (k : Stepped) → IsOrderly w.machine.system → k ≡ kind_of h w → new ≡ step_of h w → (o : State) → Related w o → Related new (original_after k w.image h o)
unfolding step_of
step_follows w new h k q e f o r =
    rw (e, f) (record { states = forward w.image (code_of w) r.sound.kept (code_sound w r.sound) r.sound.placed.renders h w.machine o q r.states; sound = r.sound })

-- ---- the run's end
over_ended : (c : Code) (h : ℕ) (m : State) → stepped c h m ≡ Over → is_some m.outcome ≡ true
unfolding stepped
over_ended c h m e = by_tests (is_some m.outcome) (is_live (hart_in m.harts h).status && is_layout_step c (hart_in m.harts h).pc) refl e
  where
    by_tests : (x y : Bool) → is_some m.outcome ≡ x → cond x Over (cond y Layout Real) ≡ Over → is_some m.outcome ≡ true
    by_tests true y f e = f
    by_tests false true f e = absurd (cc)
    by_tests false false f e = absurd (cc)

pub ended_over : (c : Code) (h : ℕ) (m : State) → is_some m.outcome ≡ true → stepped c h m ≡ Over
unfolding stepped
ended_over c h m e = rw e refl

pub over_is : (c : Code) (h : ℕ) (m : State) (k : Stepped) → k ≡ stepped c h m → (k ≡ Over) ↔ (is_some m.outcome ≡ true)
over_is c h m k e = (λ f. over_ended c h m (sym e ∙ f), λ f. e ∙ ended_over c h m f)

pub ended_stays : (fetch : ℕ → Option ℕ) (org : ℕ → ℕ) (p : Picture) (h : ℕ) (s : State) → is_some s.outcome ≡ true → step_with fetch org p h s ≡ s
unfolding step_with
ended_stays fetch org p h s e = rw e refl

original_stays : (p : Picture) (h : ℕ) (s : State) → is_some s.outcome ≡ true → original_step p h s ≡ s
unfolding original_step
original_stays p h s e = ended_stays (word_at p.texts) (λ a. a) p h s e

-- ---- up to a real step
module _ (p : Picture) (c : Code) (image_kept : IsKept p) (code : IsCodeOf p c) (n : Renders c) (h : ℕ) where
  until_over : (m : ℕ) (r : State) → kind_until p c m h r ≡ Over → is_some r.outcome ≡ true
  unfolding kind_until
  until_over zero r e = absurd (cc)
  until_over (suc m) r e = by_first (is_layout (stepped c h r)) refl (until_over m (replaced_step p c h r)) e
    where
      by_first : (t : Bool) → is_layout (stepped c h r) ≡ t → (kind_until p c m h (replaced_step p c h r) ≡ Over → is_some (replaced_step p c h r).outcome ≡ true)
          → cond t (kind_until p c m h (replaced_step p c h r)) (stepped c h r) ≡ Over → is_some r.outcome ≡ true
      by_first true l f e =
          let m = moves_alone p c image_kept code n h r (layout_of c h r l) in
          sym (ap (λ (s : State). is_some s.outcome) m.2) ∙ f e
      by_first false l f e = over_ended c h r e

  ended_until : (m : ℕ) (r : State) → is_some r.outcome ≡ true → kind_until p c (suc m) h r ≡ Over
  unfolding kind_until
  ended_until m r e = rw (ended_over c h r e) refl

pub real_over : (w : Replaced) (h : ℕ) (k : Stepped) → IsSound w.image w.text w.lives w.numbers w.free → k ≡ real_kind_of h w → (k ≡ Over) ↔ (is_some w.machine.outcome ≡ true)
real_over w h k s e = (
  λ f. until_over w.image (code_of w) s.kept (code_sound w s) s.placed.renders h 3 w.machine (sym e ∙ f),
  λ f. e ∙ ended_until w.image (code_of w) s.kept (code_sound w s) s.placed.renders h 2 w.machine f,
)

pub never_layout : (w : Replaced) (h : ℕ) (k : Stepped) → IsSound w.image w.text w.lives w.numbers w.free → k ≡ real_kind_of h w → k ≢ Layout
never_layout w h k s e f = real_is_real w.image (code_of w) s.kept (code_sound w s) s.placed.renders h w.machine (sym e ∙ f)

pub until_follows : (n h : ℕ) (w : Replaced) (o : State) → IsOrderly w.machine.system → Related w o
    → Related (until_real n h w) (original_after (kind_until w.image (code_of w) n h w.machine) w.image h o)
unfolding until_real kind_until step_of
until_follows zero h w o q r = r
until_follows (suc n) h w o q r =
    by_first (is_layout (kind_of h w)) refl (step_follows w (step_of h w) h (kind_of h w) q refl refl o r)
    (λ g. until_follows n h (step_of h w) o (subst IsOrderly (r.states.system ∙ sym g.states.system) q) g)
  where
    stays : (k : Stepped) → is_layout k ≡ true → Related (step_of h w) (original_after k w.image h o) → Related (step_of h w) o
    stays Layout e g = g
    stays Real e g = absurd (cc)
    stays Over e g = absurd (cc)

    by_first : (t : Bool) → is_layout (kind_of h w) ≡ t → Related (step_of h w) (original_after (kind_of h w) w.image h o)
        → (Related (step_of h w) o → Related (until_real n h (step_of h w)) (original_after (kind_until w.image (code_of w) n h (step_of h w).machine) w.image h o))
        → Related (cond t (until_real n h (step_of h w)) (step_of h w)) (original_after (cond t (kind_until w.image (code_of w) n h (step_of h w).machine) (kind_of h w)) w.image h o)
    by_first true e g f = f (stays (kind_of h w) e g)
    by_first false e g f = g

-- after a real step the original machine has made its step, or its run has ended as well
by_kind : (v : Replaced) (p : Picture) (h : ℕ) (o : State) (k : Stepped) → k ≢ Layout → (k ≡ Over → is_some o.outcome ≡ true) → Related v (original_after k p h o) → Related v (original_step p h o)
by_kind v p h o Real n e r = r
by_kind v p h o Layout n e r = absurd (n refl)
by_kind v p h o Over n e r = subst (λ (s : State). Related v s) (sym (original_stays p h o (e refl))) r

pub real_follows : (w new : Replaced) (h : ℕ) → IsOrderly w.machine.system → new ≡ real_step_of h w → (o : State) → Related w o → Related new (original_step w.image h o)
real_follows w new h q f o r =
    rw f (by_kind (real_step_of h w) w.image h o (real_kind_of h w) (never_layout w h (real_kind_of h w) r.sound refl)
    (λ e. ap is_some (sym r.states.outcome) ∙ (real_over w h (real_kind_of h w) r.sound refl).0 e) (until_follows 3 h w o q r))
