-- A step of the machine whose code has been moved follows the original one.
use Rattle.std.proofs.Common.{◌≡◌, ℕ, zero, suc, Bool, true, false, cond, not, List, [], ◌∷◌, refl, sym, ap, ◌∙◌, subst}
use Rattle.std.specs.Prelude.{Option, Some, None, ◌&&◌, is_some, slice_get}
use Rattle.std.proofs.lemmas.Bool.{false≢true}
use Rattle.image.specs.Picture.{Picture}
use Rattle.image.specs.Picture as image
use Rattle.image.specs.Texts.{word_at}
use Rattle.guest_sys.specs.State.{IsOrderly}
use Rattle.hart.specs.declared.hart.Hart.{Hart}
use Rattle.hart.specs.declared.hart.Status.{Status}
use Rattle.hart.specs.declared.hart.Status.TheVariants.{Live, Waiting, Ended}
use Rattle.layout.specs.Points.{Code}
use Rattle.layout.specs.Rows.{Renders}
use Rattle.machine.specs.Harts.{is_live, has_ended, no_hart, hart_in}
use Rattle.machine.specs.States.{State}
use Rattle.machine.specs.Steps.{on_fetched, settled, step_with, original_step}
use Rattle.sim_laws.specs.declared.stepped.Stepped.{Stepped}
use Rattle.sim_laws.specs.declared.stepped.Stepped.TheVariants.{Real, Layout, Over}
use Rattle.sim_laws.specs.Origins.{origin, is_layout_step}
use Rattle.sim_laws.specs.Codes.{IsCodeOf}
use Rattle.sim_laws.specs.Related.{Both, neither, found, HartsRelated, StatesRelated}
use Rattle.sim_laws.specs.Steps.{replaced_step, stepped, original_after, is_layout, until_real, kind_until}
use Rattle.sim_laws.proofs.HartLists.{hart_at}
use Rattle.sim_laws.proofs.Settled.{settled_live, settled_related}
use Rattle.sim_laws.proofs.OneWord.{Made, layout, real, IsMade, made, same_states}
use Rattle.sim_laws.proofs.LayoutSteps.{stepped_to}

pub not_ended : (t : Status) → is_live t ≡ true → has_ended t ≡ false
not_ended Live e = refl
not_ended (Waiting a) e = refl
not_ended Ended e = absurd (cc)

pub none_at : (hs : List Hart) (h : ℕ) → slice_get hs h ≡ None → hart_in hs h ≡ no_hart
none_at [] h e = refl
none_at (x ∷ xs) zero e = absurd (cc)
none_at (x ∷ xs) (suc h) e = none_at xs h e

ended_step : (fetch : ℕ → Option ℕ) (org : ℕ → ℕ) (p : Picture) (h : ℕ) (s : State) → is_some s.outcome ≡ true → step_with fetch org p h s ≡ s
unfolding step_with
ended_step fetch org p h s e = rw e refl

idle_step : (fetch : ℕ → Option ℕ) (org : ℕ → ℕ) (p : Picture) (h : ℕ) (s : State) → is_live (hart_in s.harts h).status ≡ false → step_with fetch org p h s ≡ s
unfolding step_with
idle_step fetch org p h s e = by_outcome (is_some s.outcome) refl
  where
    by_outcome : (b : Bool) → is_some s.outcome ≡ b → cond (not b && is_live (hart_in s.harts h).status) (settled (on_fetched org p h (fetch (hart_in s.harts h).pc) s)) s ≡ s
    by_outcome true f = refl
    by_outcome false f = rw e refl

stepped_is : (c : Code) (h : ℕ) (r : State) (b : Bool) → is_some r.outcome ≡ false → is_live (hart_in r.harts h).status ≡ true → is_layout_step c (hart_in r.harts h).pc ≡ b
    → stepped c h r ≡ cond b Layout Real
unfolding stepped
stepped_is c h r b e l k = rw (e, l, k) refl

over_is : (c : Code) (h : ℕ) (r : State) → is_some r.outcome ≡ true → stepped c h r ≡ Over
unfolding stepped
over_is c h r e = rw e refl

idle_is : (c : Code) (h : ℕ) (r : State) → is_some r.outcome ≡ false → is_live (hart_in r.harts h).status ≡ false → stepped c h r ≡ Real
unfolding stepped
idle_is c h r e l = rw (e, l) refl

module _ (p : Picture) (c : Code) where
  -- the hart at one place, as both machines have it
  pub data AtBoth (h : ℕ) (rs os : List Hart) : Type 0 where
    no_harts : slice_get rs h ≡ None → slice_get os h ≡ None → AtBoth h rs os
    both_harts : (hr ho : Hart) → slice_get rs h ≡ Some hr → slice_get os h ≡ Some ho → HartsRelated p c hr ho → AtBoth h rs os

  at_both_by : (h : ℕ) (rs os : List Hart) {x y : Option Hart} → Both (HartsRelated p c) x y → slice_get rs h ≡ x → slice_get os h ≡ y → AtBoth h rs os
  at_both_by h rs os neither e f = no_harts e f
  at_both_by h rs os (found {a = a} {b = b} k) e f = both_harts a b e f k

  pub at_both : (h : ℕ) (r o : State) → StatesRelated p c r o → AtBoth h r.harts o.harts
  at_both h r o s = at_both_by h r.harts o.harts (s.harts h) refl refl

  live_by : (h : ℕ) (rs os : List Hart) → AtBoth h rs os → is_live (hart_in rs h).status ≡ is_live (hart_in os h).status
  live_by h rs os (no_harts e f) = ap (λ (x : Hart). is_live x.status) (none_at rs h e ∙ sym (none_at os h f))
  live_by h rs os (both_harts hr ho e f k) = ap (λ (x : Hart). is_live x.status) (hart_at rs h hr e) ∙ ap is_live k.status ∙ sym (ap (λ (x : Hart). is_live x.status) (hart_at os h ho f))

  pub live_same : (h : ℕ) (r o : State) → StatesRelated p c r o → is_live (hart_in r.harts h).status ≡ is_live (hart_in o.harts h).status
  live_same h r o s = live_by h r.harts o.harts (at_both h r o s)

module _ (p : Picture) (c : Code) (image_kept : image.IsKept p) (code : IsCodeOf p c) (n : Renders c) (h : ℕ) (r o : State) (q : IsOrderly r.system) (s : StatesRelated p c r o) where
  unfoldable Follows : State → Stepped → Type 0
  Follows new k = StatesRelated p c new (original_after k p h o)

  -- a hart that can't go on makes an idle step
  idle : is_some r.outcome ≡ false → is_live (hart_in r.harts h).status ≡ false → Follows (replaced_step p c h r) (stepped c h r)
  unfolding Follows replaced_step original_step
  idle e l =
      subst (λ k. StatesRelated p c (step_with c.word (origin c) p h r) (original_after k p h o)) (sym (idle_is c h r e l))
      (same_states p c (idle_step c.word (origin c) p h r l) (idle_step (word_at p.texts) (λ a. a) p h o (sym (live_same p c h r o s) ∙ l)) s)

  by_made : (hr ho : Hart) (new after_o : State) → is_some r.outcome ≡ false → is_live (hart_in r.harts h).status ≡ true → slice_get r.harts h ≡ Some hr
      → replaced_step p c h r ≡ settled new → original_step p h o ≡ settled after_o → Made p c hr.pc new o after_o → Follows (replaced_step p c h r) (stepped c h r)
  unfolding Follows
  by_made hr ho new after_o e l at to_r to_o (layout t g) =
      let kind = stepped_is c h r true e l (ap (λ (x : Hart). is_layout_step c x.pc) (hart_at r.harts h hr at) ∙ t) in
      let live : is_live (hart_in new.harts h).status ≡ true = live_same p c h new o g ∙ sym (live_same p c h r o s) ∙ l in
      subst (λ k. StatesRelated p c (replaced_step p c h r) (original_after k p h o)) (sym kind)
      (same_states p c (to_r ∙ settled_live h new live) refl g)
  by_made hr ho new after_o e l at to_r to_o (real t g) =
      let kind = stepped_is c h r false e l (ap (λ (x : Hart). is_layout_step c x.pc) (hart_at r.harts h hr at) ∙ t) in
      subst (λ k. StatesRelated p c (replaced_step p c h r) (original_after k p h o)) (sym kind)
      (same_states p c to_r to_o (settled_related p c new after_o g))

  live_step : (hr ho : Hart) → is_some r.outcome ≡ false → is_live (hart_in r.harts h).status ≡ true → slice_get r.harts h ≡ Some hr → slice_get o.harts h ≡ Some ho → HartsRelated p c hr ho
      → Follows (replaced_step p c h r) (stepped c h r)
  unfolding replaced_step original_step IsMade
  live_step hr ho e l er eo k =
      let at_r = hart_at r.harts h hr er in
      let at_o = hart_at o.harts h ho eo in
      let live_o : is_live ho.status ≡ true = sym (ap is_live k.status) ∙ ap (λ (x : Hart). is_live x.status) (sym at_r) ∙ l in
      let live_in_o : is_live (hart_in o.harts h).status ≡ true = ap (λ (x : Hart). is_live x.status) at_o ∙ live_o in
      let going_o : is_some o.outcome ≡ false = ap is_some (sym s.outcome) ∙ e in
      by_made hr ho (on_fetched (origin c) p h (c.word hr.pc) r) (on_fetched (λ a. a) p h (word_at p.texts ho.pc) o) e l er
      (stepped_to c.word (origin c) p h r e l ∙ ap (λ (x : Hart). settled (on_fetched (origin c) p h (c.word x.pc) r)) at_r)
      (stepped_to (word_at p.texts) (λ a. a) p h o going_o live_in_o ∙ ap (λ (x : Hart). settled (on_fetched (λ a. a) p h (word_at p.texts x.pc) o)) at_o)
      (made p c image_kept code n h hr ho r o s q er eo live_o k (k.alike (not_ended ho.status live_o)))

  live_at_both : is_some r.outcome ≡ false → is_live (hart_in r.harts h).status ≡ true → AtBoth p c h r.harts o.harts → Follows (replaced_step p c h r) (stepped c h r)
  live_at_both e l (both_harts hr ho er eo k) = live_step hr ho e l er eo k
  live_at_both e l (no_harts er eo) = absurd (false≢true (sym (ap (λ (x : Hart). is_live x.status) (none_at r.harts h er)) ∙ l))

  by_live : (b : Bool) → is_some r.outcome ≡ false → is_live (hart_in r.harts h).status ≡ b → Follows (replaced_step p c h r) (stepped c h r)
  by_live true e l = live_at_both e l (at_both p c h r o s)
  by_live false e l = idle e l

  by_outcome : (b : Bool) → is_some r.outcome ≡ b → Follows (replaced_step p c h r) (stepped c h r)
  unfolding Follows replaced_step
  by_outcome false e = by_live (is_live (hart_in r.harts h).status) e refl
  by_outcome true e =
      subst (λ k. StatesRelated p c (step_with c.word (origin c) p h r) (original_after k p h o)) (sym (over_is c h r e))
      (same_states p c (ended_step c.word (origin c) p h r e) refl s)

  -- the law of a step
  pub forward : StatesRelated p c (replaced_step p c h r) (original_after (stepped c h r) p h o)
  unfolding Follows
  forward = by_outcome (is_some r.outcome) refl

-- the law of steps until one that the original machine makes too
module _ (p : Picture) (c : Code) (image_kept : image.IsKept p) (code : IsCodeOf p c) (n : Renders c) (h : ℕ) where
  pub until_forward : (m : ℕ) (r o : State) → IsOrderly r.system → StatesRelated p c r o → StatesRelated p c (until_real p c m h r) (original_after (kind_until p c m h r) p h o)
  unfolding until_real kind_until
  until_forward zero r o q s = s
  until_forward (suc m) r o q s = by_first (is_layout (stepped c h r)) refl (forward p c image_kept code n h r o q s) (λ t g. until_forward m (replaced_step p c h r) o (subst IsOrderly (s.system ∙ sym g.system) q) g)
    where
      stays : (k : Stepped) → is_layout k ≡ true → StatesRelated p c (replaced_step p c h r) (original_after k p h o) → StatesRelated p c (replaced_step p c h r) o
      stays Layout e g = g
      stays Real e g = absurd (cc)
      stays Over e g = absurd (cc)

      by_first : (t : Bool) → is_layout (stepped c h r) ≡ t → StatesRelated p c (replaced_step p c h r) (original_after (stepped c h r) p h o)
          → (t ≡ true → StatesRelated p c (replaced_step p c h r) o → StatesRelated p c (until_real p c m h (replaced_step p c h r)) (original_after (kind_until p c m h (replaced_step p c h r)) p h o))
          → StatesRelated p c (cond t (until_real p c m h (replaced_step p c h r)) (replaced_step p c h r)) (original_after (cond t (kind_until p c m h (replaced_step p c h r)) (stepped c h r)) p h o)
      by_first true e g f = f refl (stays (stepped c h r) e g)
      by_first false e g f = g
