-- A step on a branch or a jump leaves its hart live.
use Rattle.std.proofs.Common.{◌≡◌, ℕ, ◌<◌, Bool, true, false, cond, length, Option, Some, None, refl, sym, ap, ◌∙◌, subst}
use Rattle.std.specs.Prelude.{is_some, not}
use Rattle.std.specs.Option.{option_map_or}
use Rattle.rv_isa.specs.Decoded.{decoded}
use Rattle.rv_isa.specs.declared.instr.Instr.{Instr}
use Rattle.rv_isa.specs.declared.instr.Instr.TheVariants.{Jal, Jalr, Branch}
use Rattle.image.specs.Picture.{Picture}
use Rattle.link_tags.specs.declared.monitor.LinkFault.{LinkFault}
use Rattle.link_tags.specs.Values.{original, plain}
use Rattle.link_tags.specs.Forbidden.{forbidden}
use Rattle.link_tags.specs.declared.value.Tag.TheVariants.{Link}
use Rattle.guest_mem.specs.Memory.{Memory}
use Rattle.hart.specs.declared.hart.Hart.{Hart}
use Rattle.hart.specs.Harts.{reg, jumped, moved_by}
use Rattle.hart.specs.Effects.{Effect, next, write, jump, call, trap, link_use, hart_after, effect_of, effect_on, answer_of, unless_used, goes_on, is_taken}
use Rattle.machine.specs.declared.outcome.Outcome.{Outcome}
use Rattle.machine.specs.declared.outcome.Outcome.TheVariants.{Stalled}
use Rattle.machine.specs.Harts.{is_live, hart_in}
use Rattle.machine.specs.States.{State}
use Rattle.machine.specs.Steps.{settled, by_answer, jumped_unless, fault_of_jump, place_of, affected, after_effect, on_fetched, is_indirect, ended, can_step, step_with}
use Rattle.machine.specs.Transfers.{transfers, is_transfer}
use Rattle.machine.proofs.HartLists.{live_made}
use Rattle.machine.proofs.Still.{IsLive, set_live, keeps_status, written_live, same_status, can_live}

-- ---- what a branch or a jump does is no call
abbrev IsNoCall : Effect → Type 0
IsNoCall call = ⊥
IsNoCall _ = Unit {0}

unless_no_call : (o : Option LinkFault) (e : Effect) → IsNoCall e → IsNoCall (unless_used o e)
unless_no_call None e n = n
unless_no_call (Some fault) e n = tt

either_no_call : (b : Bool) (e f : Effect) → IsNoCall e → IsNoCall f → IsNoCall (cond b e f)
either_no_call true e f m n = m
either_no_call false e f m n = n

no_call : (origin : ℕ → ℕ) (m : Memory) (h : Hart) (i : Instr) → transfers i ≡ true → IsNoCall (effect_of origin m h i)
unfolding effect_of effect_on
no_call origin m h (Jal rd off) t = unless_no_call (forbidden (Jal rd off) (reg h.regs 0) (reg h.regs 0)) (jump (moved_by h.pc off) Link (Some rd)) tt
no_call origin m h (Jalr rd rs1 off) t =
    let i = Jalr rd rs1 off in
    let a = reg h.regs rs1 in
    unless_no_call (forbidden i a (reg h.regs 0)) (effect_on origin m h i a (reg h.regs 0)) tt
no_call origin m h (Branch c rs1 rs2 off) t =
    let i = Branch c rs1 rs2 off in
    let a = reg h.regs rs1 in
    let b = reg h.regs rs2 in
    unless_no_call (forbidden i a b) (effect_on origin m h i a b) (either_no_call (is_taken c a.number b.number) (jump (moved_by h.pc off) Link None) (goes_on origin m h 0 (plain 0)) tt tt)
no_call origin m h _ t = absurd cc

-- ---- what is no call leaves its hart live
jump_live : (fault : Option Outcome) (h to : ℕ) (rd : Option ℕ) (s : State) → IsLive h s.harts → IsLive h (jumped_unless fault h to rd s).harts
jump_live None h to rd s live = set_live s.harts h (jumped (hart_in s.harts h) to rd) (same_status (hart_in s.harts h) to rd) live
jump_live (Some outcome) h to rd s live = live

module _ (origin : ℕ → ℕ) (image : Picture) (h : ℕ) where
  affected_live : (e : Effect) (s : State) → IsLive h s.harts → IsLive h (affected origin h e s).harts
  affected_live e s live = set_live s.harts h (hart_after e (hart_in s.harts h)) (keeps_status e (hart_in s.harts h)) live

  effect_live : (indirect : Bool) (e : Effect) (s : State) → IsNoCall e → IsLive h s.harts → IsLive h (after_effect origin image h indirect e s).harts
  unfolding after_effect by_answer answer_of
  effect_live indirect (next rd v held) s n live = affected_live (next rd v held) s live
  effect_live indirect (write at width v rd w held) s n live =
      let e = write at width v rd w held in
      written_live h _ (affected origin h e s).harts (affected_live e s live)
  effect_live indirect (jump to by link) s n live =
      let t = affected origin h (jump to by link) s in
      jump_live (fault_of_jump image indirect (place_of origin h t) (original origin (record { number = to; tag = by })) by) h to link t (affected_live (jump to by link) s live)
  effect_live indirect call s n live = absurd n
  effect_live indirect (trap cause value) s n live = affected_live (trap cause value) s live
  effect_live indirect (link_use rule) s n live = affected_live (link_use rule) s live

  fetched_live : (f : Option ℕ) (s : State) → is_transfer f ≡ true → IsLive h s.harts → IsLive h (on_fetched origin image h f s).harts
  unfolding on_fetched
  fetched_live None s t live = absurd cc
  fetched_live (Some word) s t live = by_instr (decoded word) refl
    where
      by_instr : (o : Option Instr) → decoded word ≡ o → IsLive h (on_fetched origin image h (Some word) s).harts
      by_instr None e = let f : is_transfer (Some word) ≡ false = rw e refl in absurd cc
      by_instr (Some i) e =
          let is : transfers i ≡ true = subst (λ (o : Option Instr). option_map_or transfers o false ≡ true) e t in
          let effect = effect_of origin s.memory (hart_in s.harts h) i in
          rw e (effect_live (is_indirect i) effect s (no_call origin s.memory (hart_in s.harts h) i is) live)

settled_harts : (s : State) → (settled s).harts ≡ s.harts
unfolding settled
settled_harts s = by_test _
  where
    by_test : (b : Bool) → (cond b (ended Stalled s) s).harts ≡ s.harts
    by_test true = refl
    by_test false = refl

pub transfer_live : (fetch : ℕ → Option ℕ) (origin : ℕ → ℕ) (image : Picture) (h : ℕ) (s : State) → can_step h s ≡ true → is_transfer (fetch (hart_in s.harts h).pc) ≡ true
    → IsLive h (step_with fetch origin image h s).harts
unfolding step_with
transfer_live fetch origin image h s can is =
    let live = can_live (not (is_some s.outcome)) (is_live (hart_in s.harts h).status) can in
    let f = fetch (hart_in s.harts h).pc in
    rw can (subst (IsLive h) (sym (settled_harts (on_fetched origin image h f s))) (fetched_live origin image h f s is live))

-- after a step on a branch or a jump its hart is there
pub transfer_made : (origin : ℕ → ℕ) (image : Picture) (h : ℕ) (f : Option ℕ) (word : ℕ) (i : Instr) (s n : State) → can_step h s ≡ true → f ≡ Some word → decoded word ≡ Some i
    → n ≡ settled (on_fetched origin image h f s) → transfers i ≡ true → h < length n.harts
transfer_made origin image h f word i s n can is reads made t =
    let live = can_live (not (is_some s.outcome)) (is_live (hart_in s.harts h).status) can in
    let jumps : is_transfer f ≡ true = rw (is, reads) t in
    let after : IsLive h n.harts =
    subst (IsLive h) (sym (ap (λ (x : State). x.harts) made ∙ settled_harts (on_fetched origin image h f s))) (fetched_live origin image h f s jumps live) in
    live_made n.harts h after
