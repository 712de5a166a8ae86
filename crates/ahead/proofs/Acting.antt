-- What the answer of a private instruction says.
use Rattle.std.proofs.Common.{◌≡◌, ℕ, Bool, true, false, cond, refl, sym, ap, ◌∙◌, subst}
use Rattle.std.specs.Prelude.{Option, Some, None, IfSome, IfNone}
use Rattle.rv_isa.specs.declared.instr.Instr.{Instr}
use Rattle.image.specs.Picture.{Picture}
use Rattle.link_tags.specs.declared.value.Tag.{Tag}
use Rattle.guest_mem.specs.Memory.{Memory, blank}
use Rattle.hart.specs.declared.hart.Hart.{Hart}
use Rattle.hart.specs.declared.act.Acted.{Acted}
use Rattle.hart.specs.declared.act.Acted.TheVariants as acted
use Rattle.hart.specs.Effects.{Effect, next, write, jump, call, trap, link_use, effect_of, hart_after, answer_of, IsWrite, is_private}
use Rattle.machine.specs.Steps.{is_indirect}
use Rattle.world.proofs.Private.{effect_alone}
use Rattle.ahead.specs.declared.note.Aimed.{Aimed}
use Rattle.ahead.specs.Making.{jump_gone, gone_by, gone}
use Rattle.ahead.proofs.Alike.{given}
use Rattle.ahead.proofs.Stopping.{IsQuiet, quiet}

-- an answer at which the hart doesn't go on
abbrev pub IsStop : Acted → Type 0
IsStop acted.Next = ⊥
IsStop (acted.Jump to by link) = ⊥
IsStop _ = Unit {0}

module _ (org : ℕ → ℕ) (p : Picture) (indirect : Bool) (k : Hart) where
  by_next : (e : Effect) → acted.Next ≡ answer_of e → gone_by org p indirect e k ≡ given true (hart_after e k) None
  unfolding answer_of
  by_next (next rd value held) is = refl
  by_next (write at width v rd value held) is = absurd (cc)
  by_next (jump to by link) is = absurd (cc)
  by_next call is = absurd (cc)
  by_next (trap cause value) is = absurd (cc)
  by_next (link_use rule) is = absurd (cc)

  by_jump : (e : Effect) (to : ℕ) (by : Tag) (link : Option ℕ) → acted.Jump to by link ≡ answer_of e
      → (gone_by org p indirect e k ≡ jump_gone org p indirect to by link k) × (hart_after e k ≡ k)
  unfolding answer_of hart_after
  by_jump (jump u t l) to by link is =
      let a : u ≡ to = cc in
      let b : t ≡ by = cc in
      let c : l ≡ link = cc in
      (λ i. jump_gone org p indirect (a i) (b i) (c i) k, refl)
  by_jump (next rd value held) to by link is = absurd (cc)
  by_jump (write at width v rd value held) to by link is = absurd (cc)
  by_jump call to by link is = absurd (cc)
  by_jump (trap cause value) to by link is = absurd (cc)
  by_jump (link_use rule) to by link is = absurd (cc)

  by_stop : (e : Effect) (a : Acted) → IsQuiet e → a ≡ answer_of e → IsStop a → (gone_by org p indirect e k ≡ None) × (hart_after e k ≡ k)
  unfolding answer_of hart_after
  by_stop (next rd value held) a q is s = absurd (subst IsStop is s)
  by_stop (jump to by link) a q is s = absurd (subst IsStop is s)
  by_stop (write at width v rd value held) a q is s = absurd q
  by_stop call a q is s = absurd q
  by_stop (trap cause value) a q is s = (refl, refl)
  by_stop (link_use rule) a q is s = (refl, refl)

no_write : (e : Effect) → IsQuiet e → IsWrite e → ⊥
unfolding IsWrite
no_write (write at width v rd value held) q w = q
no_write (next rd value held) q w = w
no_write (jump to by link) q w = w
no_write call q w = w
no_write (trap cause value) q w = w
no_write (link_use rule) q w = w

module _ (org : ℕ → ℕ) (p : Picture) (m : Memory) (k new : Hart) (i : Instr) (alone : is_private i ≡ true) where
  gone_is : gone org p i k ≡ gone_by org p (is_indirect i) (effect_of org m k i) k
  unfolding gone
  gone_is = rw alone (ap (λ (e : Effect). gone_by org p (is_indirect i) e k) (sym (effect_alone org m k i alone)))

  is_quiet : IsQuiet (effect_of org m k i)
  is_quiet = subst IsQuiet (sym (effect_alone org m k i alone)) (quiet org k i alone)

  pub next_goes : acted.Next ≡ answer_of (effect_of org m k i) → new ≡ hart_after (effect_of org m k i) k → gone org p i k ≡ Some (new, None)
  next_goes is at = gone_is ∙ by_next org p (is_indirect i) k (effect_of org m k i) is ∙ ap (λ (x : Hart). given true x None) (sym at)

  module _ (to : ℕ) (by : Tag) (link : Option ℕ) (is : acted.Jump to by link ≡ answer_of (effect_of org m k i)) (at : new ≡ hart_after (effect_of org m k i) k) where
    pub jump_goes : gone org p i k ≡ jump_gone org p (is_indirect i) to by link new
    jump_goes =
        let j = by_jump org p (is_indirect i) k (effect_of org m k i) to by link is in
        gone_is ∙ j.0 ∙ ap (jump_gone org p (is_indirect i) to by link) (sym (at ∙ j.1))

    pub jump_stays : new ≡ k
    jump_stays = at ∙ (by_jump org p (is_indirect i) k (effect_of org m k i) to by link is).1

  pub stop_none : (a : Acted) → IsStop a → a ≡ answer_of (effect_of org m k i) → gone org p i k ≡ None
  stop_none a s is = gone_is ∙ (by_stop org p (is_indirect i) k (effect_of org m k i) a is_quiet is s).0

  pub stop_stays : (a : Acted) → IsStop a → a ≡ answer_of (effect_of org m k i) → new ≡ hart_after (effect_of org m k i) k → new ≡ k
  stop_stays a s is at = at ∙ (by_stop org p (is_indirect i) k (effect_of org m k i) a is_quiet is s).1

  pub never_out : IsWrite (effect_of org m k i) → ⊥
  never_out w = no_write (effect_of org m k i) is_quiet w

pub not_alone : (org : ℕ → ℕ) (p : Picture) (k : Hart) (i : Instr) → is_private i ≡ false → gone org p i k ≡ None
unfolding gone
not_alone org p k i e = rw e refl

-- ---- the end of a direct jump, for whatever it is made
module _ (org : ℕ → ℕ) (p : Picture) (indirect : Bool) (to : ℕ) (by : Tag) (link : Option ℕ) (k : Hart) where
  pub direct_some : (new : Hart) (o : Option (Option Aimed)) → indirect ≡ false
      → IfSome o (λ aim. (org' : ℕ → ℕ) (p' : Picture) (by' : Tag) → jump_gone org' p' false to by' link k ≡ Some (new, aim))
      → IfSome o (λ aim. jump_gone org p indirect to by link k ≡ Some (new, aim))
  direct_some new None e f = tt
  direct_some new (Some aim) e f = ap (λ (b : Bool). jump_gone org p b to by link k) e ∙ f org p by

  pub direct_none : (o : Option (Option Aimed)) → indirect ≡ false
      → IfNone o ((org' : ℕ → ℕ) (p' : Picture) (by' : Tag) → jump_gone org' p' false to by' link k ≡ None)
      → IfNone o (jump_gone org p indirect to by link k ≡ None)
  direct_none None e f = ap (λ (b : Bool). jump_gone org p b to by link k) e ∙ f org p by
  direct_none (Some aim) e f = tt

-- ---- by another call
pub some_by : (new : Hart) (o : Option (Option Aimed)) (g j : Option (Hart × Option Aimed)) → g ≡ j → IfSome o (λ aim. j ≡ Some (new, aim)) → IfSome o (λ aim. g ≡ Some (new, aim))
some_by new o g j e h = subst (λ (x : Option (Hart × Option Aimed)). IfSome o (λ aim. x ≡ Some (new, aim))) (sym e) h

pub none_by : (o : Option (Option Aimed)) (g j : Option (Hart × Option Aimed)) → g ≡ j → IfNone o (j ≡ None) → IfNone o (g ≡ None)
none_by o g j e h = subst (λ (x : Option (Hart × Option Aimed)). IfNone o (x ≡ None)) (sym e) h

pub stays_by : (o : Option (Option Aimed)) (new k k' : Hart) → k ≡ k' → IfNone o (new ≡ k) → IfNone o (new ≡ k')
stays_by o new k k' e h = subst (λ (x : Hart). IfNone o (new ≡ x)) e h
