-- Related effects on related states give related states.
use Rattle.std.proofs.Common.{◌≡◌, ◌≢◌, ℕ, ◌%◌, Bool, true, refl, sym, ap, ◌∙◌, subst}
use Rattle.std.specs.Prelude.{Option, Some, None, slice_get, slice_set}
use Rattle.rv_isa.specs.declared.instr.Width.{Width}
use Rattle.image.specs.Picture as image
use Rattle.image.specs.Picture.{Picture}
use Rattle.link_tags.specs.declared.value.Tag.TheVariants.{Link}
use Rattle.link_tags.specs.declared.value.Value.{Value}
use Rattle.link_tags.specs.Values.{plain}
use Rattle.guest_sys.specs.State.{IsOrderly}
use Rattle.guest_mem.specs.Access.{size_of, stored}
use Rattle.hart.specs.declared.hart.Hart.{Hart}
use Rattle.hart.specs.Harts.{reg, after, block_of, jumped}
use Rattle.hart.specs.Effects.{Effect, next, write, jump, call, trap, link_use, hart_after, memory_after, answer_of}
use Rattle.layout.specs.Points.{Code}
use Rattle.layout.specs.Rows.{Renders}
use Rattle.machine.specs.declared.outcome.Outcome.TheVariants.{Trap, LinkUse}
use Rattle.machine.specs.Harts.{is_live, hart_in, written_by}
use Rattle.machine.specs.States.{State}
use Rattle.machine.specs.Steps.{ended, with_hart, fault_of_jump, jumped_unless, after_effect, by_answer, call_of, called}
use Rattle.sim_laws.specs.Origins.{origin}
use Rattle.sim_laws.specs.Codes.{IsCodeOf}
use Rattle.sim_laws.specs.Related.{Lands, ValuesRelated, RegsRelated, HartsRelated, StatesRelated}
use Rattle.sim_laws.proofs.Lands.{origin_lands}
use Rattle.sim_laws.proofs.EffectPairs.{EffectsRelated, both_next, both_write, both_jump, jump_next, next_jump, both_call, both_trap, both_use, Follows}
use Rattle.sim_laws.proofs.HartLists.{hart_at, get_set, set_both}
use Rattle.sim_laws.proofs.GoingOn.{regs_written, lands_alike, next_hart}
use Rattle.sim_laws.proofs.Settled.{waiting_kept, status_set, unaffected, next_after, jump_after, no_fault, moved_on, ended_related}
use Rattle.sim_laws.proofs.Written.{status_written, written_related}
use Rattle.sim_laws.proofs.Called.{called_related}
use Rattle.sim_laws.proofs.MemoryLaws.{stored_related}
use Rattle.sim_laws.proofs.Jumped.{IsAt, harts_of, places_of, both_as, jumped_hart, jumps_applied}

-- ---- what an effect leaves of a state
write_after : (origin : ℕ → ℕ) (p : Picture) (h : ℕ) (i : Bool) (at : ℕ) (width : Width) (v : Value) (rd : ℕ) (value : Value) (held : Option ℕ) (s : State) (hart : Hart)
    → slice_get s.harts h ≡ Some hart → after_effect origin p h i (write at width v rd value held) s
    ≡ record s { harts = written_by h (block_of at) (slice_set s.harts h (hart_after (next rd value held) hart)); memory = stored origin s.memory at width v }
unfolding after_effect by_answer answer_of memory_after hart_after
write_after origin p h i at width v rd value held s hart e =
    ap (λ (x : Hart). record s { harts = written_by h (block_of at) (slice_set s.harts h (hart_after (next rd value held) x)); memory = stored origin s.memory at width v }) (hart_at s.harts h hart e)

trap_after : (origin : ℕ → ℕ) (p : Picture) (h : ℕ) (i : Bool) (cause value : ℕ) (s : State)
    → after_effect origin p h i (trap cause value) s ≡ ended (Trap cause (origin (hart_in s.harts h).pc) value) s
unfolding after_effect by_answer answer_of memory_after hart_after
trap_after origin p h i cause value s = ap (λ (x : State). ended (Trap cause (origin (hart_in x.harts h).pc) value) x) (unaffected h s)

use_after : (origin : ℕ → ℕ) (p : Picture) (h : ℕ) (i : Bool) (rule : ℕ) (s : State)
    → after_effect origin p h i (link_use rule) s ≡ ended (LinkUse rule (origin (hart_in s.harts h).pc)) s
unfolding after_effect by_answer answer_of memory_after hart_after
use_after origin p h i rule s = ap (λ (x : State). ended (LinkUse rule (origin (hart_in x.harts h).pc)) x) (unaffected h s)

call_after : (origin : ℕ → ℕ) (p : Picture) (h : ℕ) (i : Bool) (s : State) → after_effect origin p h i call s ≡ called origin h (call_of origin h s) s
unfolding after_effect by_answer answer_of memory_after hart_after
call_after origin p h i s = ap (λ (x : State). called origin h (call_of origin h x) x) (unaffected h s)

module _ (p : Picture) (c : Code) where
  next_related : {hr ho : Hart} (rd : ℕ) (v w : Value) (held : Option ℕ) → HartsRelated p c hr ho → ((k : ℕ) → ValuesRelated p c (reg hr.regs k) (reg ho.regs k))
      → Follows p c hr ho → (rd ≢ 0 → ValuesRelated p c v w) → HartsRelated p c (hart_after (next rd v held) hr) (hart_after (next rd w held) ho)
  unfolding hart_after
  next_related {hr = hr} {ho = ho} rd v w held k g f values =
      next_hart p c hr ho rd v w held k
      (lands_alike p c {r = hart_after (next rd v held) hr} {o = hart_after (next rd w held) ho} f (regs_written p c hr.regs ho.regs rd v w k.replaced_length k.original_length g values))

  status_after : (rd : ℕ) (v : Value) (held : Option ℕ) (x : Hart) → (hart_after (next rd v held) x).status ≡ x.status
  unfolding hart_after
  status_after rd v held x = refl

  module _ {h : ℕ} {hr ho : Hart} {r o : State} (k : IsAt p c h hr ho r o) where
    status_in : ho.status ≡ (hart_in o.harts h).status
    status_in = ap (λ (x : Hart). x.status) (sym (hart_at o.harts h ho k.original))

    next_case : (i j : Bool) (rd : ℕ) (v w : Value) (held : Option ℕ) → Follows p c hr ho → (rd ≢ 0 → ValuesRelated p c v w)
        → StatesRelated p c (after_effect (origin c) p h i (next rd v held) r) (after_effect (λ a. a) p h j (next rd w held) o)
    next_case i j rd v w held f values =
        both_as p c _ _ _ _
        (next_after (origin c) p h i rd v held r hr k.replaced)
        (next_after (λ a. a) p h j rd w held o ho k.original)
        (moved_on p c h (hart_after (next rd v held) hr) (hart_after (next rd w held) ho) r o k.states
        (next_related rd v w held (harts_of p c k) k.regs f values) (status_after rd w held ho ∙ status_in))

    write_case : image.IsKept p → IsCodeOf p c → (i j : Bool) (at : ℕ) (width : Width) (a b : Value) (rd : ℕ) (v w : Value) (held : Option ℕ) → at % size_of width ≡ 0 → Follows p c hr ho
        → ValuesRelated p c a b → (rd ≢ 0 → ValuesRelated p c v w)
        → StatesRelated p c (after_effect (origin c) p h i (write at width a rd v held) r) (after_effect (λ a. a) p h j (write at width b rd w held) o)
    write_case is_kept is i j at width a b rd v w held aligned f stored_values values =
        let x = hart_after (next rd v held) hr in
        let y = hart_after (next rd w held) ho in
        let rs = slice_set r.harts h x in
        let os = slice_set o.harts h y in
        let harts = set_both r.harts o.harts h x y (next_related rd v w held (harts_of p c k) k.regs f values) k.states.harts in
        let still = status_set o.harts h y (status_after rd w held ho ∙ status_in) in
        both_as p c _ _ _ _
        (write_after (origin c) p h i at width a rd v held r hr k.replaced)
        (write_after (λ a. a) p h j at width b rd w held o ho k.original)
        (record {
          outcome = k.states.outcome;
          system = k.states.system;
          memory = stored_related p c is_kept is at width aligned stored_values k.states.memory;
          harts = written_related p c h (block_of at) x y rs os (get_set r.harts h hr x k.replaced) (get_set o.harts h ho y k.original) harts;
          waiting = waiting_kept o.system.waiting o.harts (written_by h (block_of at) os) (λ q. status_written h (block_of at) os q ∙ still q) k.states.waiting;
        })

    -- one of them jumps, and the other goes on
    jump_next_case : (i j : Bool) (to : ℕ) → Lands p c to (after ho.pc)
        → StatesRelated p c (after_effect (origin c) p h i (jump to Link None) r) (after_effect (λ a. a) p h j (next 0 (plain 0) ho.reservation) o)
    unfolding hart_after
    jump_next_case i j to lands =
        both_as p c _ _ _ _
        (jump_after (origin c) p h i to Link None r
        ∙ ap (λ z. jumped_unless (fault_of_jump p i (origin c (hart_in r.harts h).pc) z Link) h to None r) (origin_lands p c lands.stands)
        ∙ ap (λ z. jumped_unless z h to None r) (no_fault p i (origin c (hart_in r.harts h).pc) (after ho.pc) lands.whole lands.unpaired)
        ∙ ap (λ (x : Hart). with_hart h (jumped x to None) r) (hart_at r.harts h hr k.replaced))
        (next_after (λ a. a) p h j 0 (plain 0) ho.reservation o ho k.original)
        (moved_on p c h (jumped hr to None) (jumped ho (after ho.pc) None) r o k.states
        (jumped_hart p c hr ho to (after ho.pc) None (harts_of p c k) k.regs lands (λ rd e. absurd (cc))) status_in)

    next_jump_case : (i j : Bool) (u : ℕ) → Lands p c (after hr.pc) u
        → StatesRelated p c (after_effect (origin c) p h i (next 0 (plain 0) hr.reservation) r) (after_effect (λ a. a) p h j (jump u Link None) o)
    unfolding hart_after
    next_jump_case i j u lands =
        both_as p c _ _ _ _
        (next_after (origin c) p h i 0 (plain 0) hr.reservation r hr k.replaced)
        (jump_after (λ a. a) p h j u Link None o
        ∙ ap (λ z. jumped_unless z h u None o) (no_fault p j (hart_in o.harts h).pc u lands.whole lands.unpaired)
        ∙ ap (λ (x : Hart). with_hart h (jumped x u None) o) (hart_at o.harts h ho k.original))
        (moved_on p c h (jumped hr (after hr.pc) None) (jumped ho u None) r o k.states
        (jumped_hart p c hr ho (after hr.pc) u None (harts_of p c k) k.regs lands (λ rd e. absurd (cc))) status_in)

    trap_case : (i j : Bool) (cause value : ℕ) → StatesRelated p c (after_effect (origin c) p h i (trap cause value) r) (after_effect (λ a. a) p h j (trap cause value) o)
    trap_case i j cause value =
        both_as p c _ _ _ _
        (trap_after (origin c) p h i cause value r ∙ ap (λ z. ended (Trap cause z value) r) (places_of p c k))
        (trap_after (λ a. a) p h j cause value o)
        (ended_related p c (Trap cause (hart_in o.harts h).pc value) r o k.states)

    use_case : (i j : Bool) (rule : ℕ) → StatesRelated p c (after_effect (origin c) p h i (link_use rule) r) (after_effect (λ a. a) p h j (link_use rule) o)
    use_case i j rule =
        both_as p c _ _ _ _
        (use_after (origin c) p h i rule r ∙ ap (λ z. ended (LinkUse rule z) r) (places_of p c k))
        (use_after (λ a. a) p h j rule o)
        (ended_related p c (LinkUse rule (hart_in o.harts h).pc) r o k.states)

    call_case : IsOrderly o.system → is_live ho.status ≡ true → (i j : Bool) → Follows p c hr ho
        → StatesRelated p c (after_effect (origin c) p h i call r) (after_effect (λ a. a) p h j call o)
    call_case orderly live i j f = both_as p c _ _ _ _ (call_after (origin c) p h i r) (call_after (λ a. a) p h j o) (called_related p c k orderly live f)

  applied_at : image.IsKept p → IsCodeOf p c → Renders c → {h : ℕ} {hr ho : Hart} {r o : State} (i j : Bool) {e f : Effect} → IsAt p c h hr ho r o
      → IsOrderly o.system → is_live ho.status ≡ true → EffectsRelated p c hr ho i j e f
      → StatesRelated p c (after_effect (origin c) p h i e r) (after_effect (λ a. a) p h j f o)
  applied_at is_kept is n i j k orderly live (both_next {rd = rd} {v = v} {w = w} {held = held} f values) = next_case k i j rd v w held f values
  applied_at is_kept is n i j k orderly live (both_write {at = at} {width = width} {a = a} {b = b} {rd = rd} {v = v} {w = w} {held = held} aligned f stored values) =
      write_case k is_kept is i j at width a b rd v w held aligned f stored values
  applied_at is_kept is n i j k orderly live (both_jump m f) = jumps_applied p c is_kept is n k m f
  applied_at is_kept is n {o = o} i j k orderly live (jump_next {to = to} lands) = jump_next_case k i j to lands
  applied_at is_kept is n i j k orderly live (next_jump {u = u} lands) = next_jump_case k i j u lands
  applied_at is_kept is n i j k orderly live (both_call f) = call_case k orderly live i j f
  applied_at is_kept is n i j k orderly live (both_trap {cause = cause} {value = value}) = trap_case k i j cause value
  applied_at is_kept is n i j k orderly live (both_use {rule = rule}) = use_case k i j rule

  -- the effects of two instructions of hart h
  pub applied : image.IsKept p → IsCodeOf p c → Renders c → (h : ℕ) (hr ho : Hart) (r o : State) (i j : Bool) {e f : Effect}
      → StatesRelated p c r o → IsOrderly r.system → slice_get r.harts h ≡ Some hr → slice_get o.harts h ≡ Some ho → is_live ho.status ≡ true
      → origin c hr.pc ≡ ho.pc → RegsRelated p c hr.regs ho.regs → EffectsRelated p c hr ho i j e f
      → StatesRelated p c (after_effect (origin c) p h i e r) (after_effect (λ a. a) p h j f o)
  applied is_kept is n h hr ho r o i j s orderly at_r at_o live place regs effects =
      applied_at is_kept is n i j (record { states = s; replaced = at_r; original = at_o; place = place; regs = regs })
      (subst IsOrderly s.system orderly) live effects
