-- An instruction that calls the system changes neither hart nor memory.
use Rattle.std.proofs.Common.{◌≡◌, ℕ, List, ap, refl, ◌∙◌}
use Rattle.std.specs.Prelude.{slice_set}
use Rattle.std.proofs.lemmas.List.{set-get_or}
use Rattle.guest_mem.specs.Memory.{Memory}
use Rattle.hart.specs.declared.hart.Hart.{Hart}
use Rattle.hart.specs.declared.act.Acted.TheVariants as acted
use Rattle.machine.specs.Harts.{no_hart, hart_in}
use Rattle.machine.specs.States.{State}
use Rattle.hart.specs.Effects.{Effect, next, write, jump, call, trap, link_use, hart_after, memory_after, answer_of}

call_keeps : (origin : ℕ → ℕ) (e : Effect) (h : Hart) (m : Memory) → acted.Call ≡ answer_of e → (hart_after e h ≡ h) × (memory_after origin e m ≡ m)
unfolding hart_after memory_after answer_of
call_keeps origin (next rd value held) h m is = absurd cc
call_keeps origin (write at width v rd value held) h m is = absurd cc
call_keeps origin (jump to by link) h m is = absurd cc
call_keeps origin call h m is = (refl, refl)
call_keeps origin (trap cause value) h m is = absurd cc
call_keeps origin (link_use rule) h m is = absurd cc

-- so a call that could not be made leaves the state as it was
pub call_undone : (origin : ℕ → ℕ) (e : Effect) (h : ℕ) (s : State) (harts : List Hart) (m : Memory) (n : State)
    → (acted.Call ≡ answer_of e) × (harts ≡ slice_set s.harts h (hart_after e (hart_in s.harts h))) × (m ≡ memory_after origin e s.memory)
    → n ≡ record { harts = harts; memory = m; system = s.system; outcome = s.outcome } → n ≡ s
call_undone origin e h s harts m n acts is =
    let keeps = call_keeps origin e (hart_in s.harts h) s.memory acts.0 in
    let same : harts ≡ s.harts = acts.1 ∙ ap (slice_set s.harts h) keeps.0 ∙ set-get_or s.harts h no_hart in
    let memory = acts.2 ∙ keeps.1 in
    is ∙ (λ i. record { harts = same i; memory = memory i; system = s.system; outcome = s.outcome })
