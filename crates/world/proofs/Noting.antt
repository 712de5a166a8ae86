-- Which transfer a step makes, by what it is.
use Rattle.std.proofs.Common.{◌≡◌, ℕ, Bool, true, false, cond, List, refl, ap, ◌∙◌}
use Rattle.std.specs.Prelude.{Option, None, ◌&&◌, not, is_some}
use Rattle.oc_base.specs.declared.range.Range.{Range}
use Rattle.image.specs.declared.ranges.TextRange.{TextRange}
use Rattle.image.specs.Picture.{Picture}
use Rattle.layout.specs.Laid.{Laid}
use Rattle.layout.specs.Points.{Code}
use Rattle.machine.specs.Harts.{is_live, hart_in}
use Rattle.machine.specs.States.{State}
use Rattle.machine.specs.Steps.{can_step, on_fetched, settled, step_with}
use Rattle.machine.specs.Transfers.{transfer_on, transfer_with}
use Rattle.sim_laws.specs.Origins.{origin, origin_of}
use Rattle.sim_laws.specs.Steps.{replaced_step, replaced_transfer, stepped, is_layout}
use Rattle.world.specs.Worlds.{code_in, point_at}
use Rattle.world.proofs.Following.{stepped_on}

pub idle_transfer : (fetch : ℕ → Option ℕ) (org : ℕ → ℕ) (p : Picture) (h : ℕ) (s : State) → can_step h s ≡ false → transfer_with fetch org p h s ≡ None
unfolding transfer_with
idle_transfer fetch org p h s e = rw e refl

either_none : (b : Bool) (t : Option (ℕ × ℕ)) → t ≡ None → cond b None t ≡ None
either_none true t e = refl
either_none false t e = e

module _ (p : Picture) (c : Code) (h : ℕ) (m : State) where
  idle_none : can_step h m ≡ false → replaced_transfer p c h m ≡ None
  unfolding replaced_transfer
  idle_none e = either_none (is_layout (stepped c h m)) (transfer_with c.word (origin c) p h m) (idle_transfer c.word (origin c) p h m e)

  pub ended_none : is_some m.outcome ≡ true → replaced_transfer p c h m ≡ None
  ended_none e = idle_none (ap (λ b. not b && is_live (hart_in m.harts h).status) e)

  pub resting_none : is_some m.outcome ≡ false → is_live (hart_in m.harts h).status ≡ false → replaced_transfer p c h m ≡ None
  resting_none e l = idle_none (λ i. not (e i) && l i)

  pub layout_none : is_layout (stepped c h m) ≡ true → replaced_transfer p c h m ≡ None
  unfolding replaced_transfer
  layout_none l = rw l refl

  pub real_moved : (t : Option (ℕ × ℕ)) → is_layout (stepped c h m) ≡ false → t ≡ transfer_with c.word (origin c) p h m → t ≡ replaced_transfer p c h m
  unfolding replaced_transfer
  real_moved t l e = rw l e

-- what a step on a fetched word told
pub moved_on : (p : Picture) (text : List TextRange) (lives : List Laid) (r : Range) (h : ℕ) (m n : State) (word : Option ℕ) (t : Option (ℕ × ℕ)) → can_step h m ≡ true → r ≡ p.region
    → word ≡ (code_in p text lives).word (hart_in m.harts h).pc
    → n ≡ settled (on_fetched (λ a. origin_of a (point_at r lives a)) p h word m)
    → t ≡ transfer_on (λ a. origin_of a (point_at r lives a)) h word m n → t ≡ transfer_with (code_in p text lives).word (origin (code_in p text lives)) p h m
unfolding replaced_step transfer_with origin
moved_on p text lives r h m n word t can f w e told =
    let to : n ≡ step_with (code_in p text lives).word (origin (code_in p text lives)) p h m = stepped_on p text lives r h m n word can f w e in
    told ∙ (λ i. transfer_on (λ a. origin_of a (point_at (f i) lives a)) h (w i) m (to i)) ∙ rw can refl
