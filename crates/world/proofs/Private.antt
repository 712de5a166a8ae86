-- A step on registers and pc alone, and one of layouts alone, as flights of one step; and what is known of a step by its word.
use Rattle.std.proofs.Common.{◌≡◌, ℕ, suc, Bool, true, false, cond, List, [], ◌∷◌, refl, sym, ap, ◌∙◌, subst}
use Rattle.std.specs.Prelude.{Option, Some, None, ◌&&◌, is_some, slice_set}
use Rattle.std.proofs.lemmas.Bool.{false≢true}
use Rattle.rv_isa.specs.Decoded.{decoded}
use Rattle.rv_isa.specs.declared.instr.Instr.{Instr}
use Rattle.rv_isa.specs.declared.instr.Instr.TheVariants.{Alu, AluImm, ShiftImm, Lui, Auipc, Jal, Jalr, Branch, Load, Store, Lr, Sc, Amo, Fence, Ecall, Ebreak}
use Rattle.image.specs.declared.ranges.TextRange.{TextRange}
use Rattle.image.specs.Picture.{Picture}
use Rattle.image.specs.Picture as image
use Rattle.link_tags.specs.declared.value.Tag.TheVariants.{Link}
use Rattle.link_tags.specs.declared.value.Value.{Value}
use Rattle.link_tags.specs.declared.monitor.LinkFault.{LinkFault}
use Rattle.link_tags.specs.Forbidden.{forbidden}
use Rattle.link_tags.specs.Values.{plain, original}
use Rattle.branch_ring.specs.Rings.{Notes}
use Rattle.guest_mem.specs.Memory.{Memory, blank}
use Rattle.hart.specs.declared.hart.Hart.{Hart}
use Rattle.hart.specs.Harts.{reg, jumped, moved_by}
use Rattle.hart.specs.Effects.{Effect, next, write, jump, call, trap, link_use, effect_of, effect_on, unless_used, is_taken, hart_after, is_private, first_source, second_source}
use Rattle.layout.specs.declared.point.Point.{Point}
use Rattle.layout.specs.Laid.{Laid}
use Rattle.layout.specs.Points.{Code, in_range, read}
use Rattle.layout.specs.Rows.{Renders}
use Rattle.layout.proofs.TextRows.{read_is}
use Rattle.machine.specs.declared.outcome.Outcome.{Outcome}
use Rattle.machine.specs.Harts.{is_live, hart_in}
use Rattle.machine.specs.States.{State}
use Rattle.machine.specs.Steps.{with_hart, is_indirect, fault_of_jump, jumped_unless, after_effect, on_fetched, settled, step_with}
use Rattle.machine.specs.Transfers.{transfers, transfer_on, transfer_with}
use Rattle.sim_laws.specs.declared.stepped.Stepped.TheVariants.{Real, Layout}
use Rattle.sim_laws.specs.Origins.{origin, is_layout_step}
use Rattle.sim_laws.specs.Steps.{replaced_step, replaced_transfer, stepped, is_layout}
use Rattle.sim_laws.proofs.HartLists.{hart_at, live_at, get_set}
use Rattle.sim_laws.proofs.LayoutSteps.{layout_of, stepped_to, led_is}
use Rattle.sim_laws.proofs.OneWord.{read_fetched}
use Rattle.sim_laws.proofs.Settled.{settled_live, next_after, jump_after}
use Rattle.world.specs.Adopting.{adopted, layout_flight, real_flight, unless_fault, after_private, private_step, led_in, Goes, with_transfers}
use Rattle.world.specs.Fetching.{fetched_as, is_layout_fetch}
use Rattle.world.specs.Rings.{with_transfer}
use Rattle.world.specs.Runs.{until_real, real_step_of}
use Rattle.world.specs.Worlds.{Replaced, IsWorld, code_in, code_of, kind_of, step_of, counted}
use Rattle.world.proofs.Fetching.{layout_at, layout_fetched, by_point}
use Rattle.world.proofs.Following.{code_sound}
use Rattle.world.proofs.Moving.{led_hart}
use Rattle.world.proofs.Noting.{layout_none, real_moved}

-- ---- a private instruction reads no memory, and leaves the reservation
module _ (org : ℕ → ℕ) (m : Memory) (k : Hart) where
  alone_on : (i : Instr) (a b : Value) → is_private i ≡ true → effect_on org m k i a b ≡ effect_on org blank k i a b
  unfolding effect_on
  alone_on (Alu op rd rs1 rs2) a b e = refl
  alone_on (AluImm op rd rs1 imm) a b e = refl
  alone_on (ShiftImm op rd rs1 by) a b e = refl
  alone_on (Lui rd imm) a b e = refl
  alone_on (Auipc rd imm) a b e = refl
  alone_on (Jal rd off) a b e = refl
  alone_on (Jalr rd rs1 off) a b e = refl
  alone_on (Branch c rs1 rs2 off) a b e = refl
  alone_on (Fence rd rs1 imm) a b e = refl
  alone_on (Load width rd rs1 off) a b e = absurd (false≢true e)
  alone_on (Store width rs2 rs1 off) a b e = absurd (false≢true e)
  alone_on (Lr wide order rd rs1) a b e = absurd (false≢true e)
  alone_on (Sc wide order rd rs1 rs2) a b e = absurd (false≢true e)
  alone_on (Amo op wide order rd rs1 rs2) a b e = absurd (false≢true e)
  alone_on Ecall a b e = absurd (false≢true e)
  alone_on Ebreak a b e = absurd (false≢true e)

  pub effect_alone : (i : Instr) → is_private i ≡ true → effect_of org m k i ≡ effect_of org blank k i
  unfolding effect_of
  effect_alone i e =
      ap (unless_used (forbidden i (reg k.regs (first_source i)) (reg k.regs (second_source i)))) (alone_on i (reg k.regs (first_source i)) (reg k.regs (second_source i)) e)

-- an effect that leaves the reservation as it is
abbrev Leaves : Hart → Effect → Type 0
Leaves k (next rd value held) = held ≡ k.reservation
Leaves k _ = Unit {0}

module _ (org : ℕ → ℕ) (k : Hart) where
  by_taken : (t : Bool) (to : ℕ) → Leaves k (cond t (jump to Link None) (next 0 (plain 0) k.reservation))
  by_taken true to = tt
  by_taken false to = refl

  leaves_on : (i : Instr) (a b : Value) → is_private i ≡ true → Leaves k (effect_on org blank k i a b)
  unfolding effect_on
  leaves_on (Alu op rd rs1 rs2) a b e = refl
  leaves_on (AluImm op rd rs1 imm) a b e = refl
  leaves_on (ShiftImm op rd rs1 by) a b e = refl
  leaves_on (Lui rd imm) a b e = refl
  leaves_on (Auipc rd imm) a b e = refl
  leaves_on (Jal rd off) a b e = tt
  leaves_on (Jalr rd rs1 off) a b e = tt
  leaves_on (Branch c rs1 rs2 off) a b e = by_taken (is_taken c a.number b.number) (moved_by k.pc off)
  leaves_on (Fence rd rs1 imm) a b e = refl
  leaves_on (Load width rd rs1 off) a b e = absurd (false≢true e)
  leaves_on (Store width rs2 rs1 off) a b e = absurd (false≢true e)
  leaves_on (Lr wide order rd rs1) a b e = absurd (false≢true e)
  leaves_on (Sc wide order rd rs1 rs2) a b e = absurd (false≢true e)
  leaves_on (Amo op wide order rd rs1 rs2) a b e = absurd (false≢true e)
  leaves_on Ecall a b e = absurd (false≢true e)
  leaves_on Ebreak a b e = absurd (false≢true e)

  leaves_used : (o : Option LinkFault) (e : Effect) → Leaves k e → Leaves k (unless_used o e)
  leaves_used None e l = l
  leaves_used (Some fault) e l = tt

  leaves : (i : Instr) → is_private i ≡ true → Leaves k (effect_of org blank k i)
  unfolding effect_of
  leaves i e =
      leaves_used (forbidden i (reg k.regs (first_source i)) (reg k.regs (second_source i))) (effect_on org blank k i (reg k.regs (first_source i)) (reg k.regs (second_source i)))
      (leaves_on i (reg k.regs (first_source i)) (reg k.regs (second_source i)) e)

-- ---- what it makes of a hart, by its effect
module _ (org : ℕ → ℕ) (p : Picture) (indirect : Bool) (k new : Hart) where
  -- registers and pc are all that is new
  abbrev Same : Hart → Type 0
  Same x = x ≡ record k { regs = x.regs; pc = x.pc }

  jumped_same : (to : ℕ) (link : Option ℕ) → Same (jumped k to link)
  jumped_same to None = refl
  jumped_same to (Some rd) = refl

  unless_same : (f : Option Outcome) (x : Hart) → Same x → unless_fault f x ≡ Some new → Same new
  unless_same None x s e = let is : x ≡ new = cc in subst Same is s
  unless_same (Some outcome) x s e = absurd (cc)

  next_same : (rd : ℕ) (value : Value) (held : Option ℕ) → held ≡ k.reservation → Same (hart_after (next rd value held) k)
  unfolding hart_after
  next_same rd value held e = ap (λ (r : Option ℕ). record k { regs = (hart_after (next rd value held) k).regs; pc = (hart_after (next rd value held) k).pc; reservation = r }) e

  same_after : (e : Effect) → Leaves k e → after_private org p indirect e k ≡ Some new → Same new
  same_after (next rd value held) l is = let at : hart_after (next rd value held) k ≡ new = cc in subst Same at (next_same rd value held l)
  same_after (jump to by link) l is = unless_same (fault_of_jump p indirect (org k.pc) (original org (record { number = to; tag = by })) by) (jumped k to link) (jumped_same to link) is
  same_after (write at width v rd value held) l is = absurd (cc)
  same_after call l is = absurd (cc)
  same_after (trap cause value) l is = absurd (cc)
  same_after (link_use rule) l is = absurd (cc)

-- the two tests of a private step
record Passes (org : ℕ → ℕ) (p : Picture) (i : Instr) (k new : Hart) : Type 0 where
  alone : is_private i ≡ true
  leads : after_private org p (is_indirect i) (effect_of org blank k i) k ≡ Some new

passes : (org : ℕ → ℕ) (p : Picture) (i : Instr) (k new : Hart) → private_step org p i k ≡ Some new → Passes org p i k new
unfolding private_step
passes org p i k new e = by_test (is_private i) refl e
  where
    by_test : (b : Bool) → is_private i ≡ b → cond b (after_private org p (is_indirect i) (effect_of org blank k i) k) None ≡ Some new → Passes org p i k new
    by_test true is e = record { alone = is; leads = e }
    by_test false is e = absurd (cc)

pub private_same : (org : ℕ → ℕ) (p : Picture) (i : Instr) (k new : Hart) → private_step org p i k ≡ Some new → new ≡ record k { regs = new.regs; pc = new.pc }
private_same org p i k new e =
    let q = passes org p i k new e in same_after org p (is_indirect i) k new (effect_of org blank k i) (leaves org k i q.alone) q.leads

-- ---- in the machine
module _ (org : ℕ → ℕ) (p : Picture) (h : ℕ) (indirect : Bool) (new : Hart) (s : State) (live : is_live (hart_in s.harts h).status ≡ true) where
  unless_made : (f : Option Outcome) (to : ℕ) (link : Option ℕ) → unless_fault f (jumped (hart_in s.harts h) to link) ≡ Some new → jumped_unless f h to link s ≡ with_hart h new s
  unless_made None to link e = let is : jumped (hart_in s.harts h) to link ≡ new = cc in ap (λ (x : Hart). with_hart h x s) is
  unless_made (Some outcome) to link e = absurd (cc)

  made_after : (e : Effect) → after_private org p indirect e (hart_in s.harts h) ≡ Some new → after_effect org p h indirect e s ≡ with_hart h new s
  made_after (next rd value held) is =
      let at : hart_after (next rd value held) (hart_in s.harts h) ≡ new = cc in
      next_after org p h indirect rd value held s (hart_in s.harts h) (live_at s.harts h live) ∙ ap (λ (x : Hart). with_hart h x s) at
  made_after (jump to by link) is =
      jump_after org p h indirect to by link s
      ∙ unless_made (fault_of_jump p indirect (org (hart_in s.harts h).pc) (original org (record { number = to; tag = by })) by) to link is
  made_after (write at width v rd value held) is = absurd (cc)
  made_after call is = absurd (cc)
  made_after (trap cause value) is = absurd (cc)
  made_after (link_use rule) is = absurd (cc)

module _ (c : Code) (p : Picture) (h word : ℕ) (i : Instr) (new : Hart) (s : State) (going : is_some s.outcome ≡ false) (live : is_live (hart_in s.harts h).status ≡ true)
    (at : is_layout_step c (hart_in s.harts h).pc ≡ false) (reads : c.word (hart_in s.harts h).pc ≡ Some word) (is : decoded word ≡ Some i)
    (step : private_step (origin c) p i (hart_in s.harts h) ≡ Some new) where
  fetched : on_fetched (origin c) p h (c.word (hart_in s.harts h).pc) s ≡ with_hart h new s
  fetched =
      let q = passes (origin c) p i (hart_in s.harts h) new step in
      read_fetched (origin c) p h s (hart_in s.harts h) c.word i (live_at s.harts h live) (read_is c.word (hart_in s.harts h).pc word (Some i) reads is)
      ∙ ap (λ e. after_effect (origin c) p h (is_indirect i) e s) (effect_alone (origin c) s.memory (hart_in s.harts h) i q.alone)
      ∙ made_after (origin c) p h (is_indirect i) new s live (effect_of (origin c) blank (hart_in s.harts h) i) q.leads

  there : hart_in (slice_set s.harts h new) h ≡ new
  there = hart_at (slice_set s.harts h new) h new (get_set s.harts h (hart_in s.harts h) new (live_at s.harts h live))

  stays_live : is_live (hart_in (slice_set s.harts h new) h).status ≡ true
  stays_live =
      ap (λ (x : Hart). is_live x.status) (there ∙ private_same (origin c) p i (hart_in s.harts h) new step) ∙ live

  stepped_with : step_with c.word (origin c) p h s ≡ with_hart h new s
  stepped_with = stepped_to c.word (origin c) p h s going live ∙ ap settled fetched ∙ settled_live h (with_hart h new s) stays_live

  pub machine_made : replaced_step p c h s ≡ with_hart h (record (hart_in s.harts h) { regs = new.regs; pc = new.pc }) s
  unfolding replaced_step
  machine_made = stepped_with ∙ ap (λ (x : Hart). with_hart h x s) (private_same (origin c) p i (hart_in s.harts h) new step)

  pub is_real : stepped c h s ≡ Real
  unfolding stepped
  is_real = rw (going, live, at) refl

  moves : transfer_on (origin c) h (c.word (hart_in s.harts h).pc) s (with_hart h new s) ≡ cond {A = Option (ℕ × ℕ)} (transfers i) (Some (origin c (hart_in s.harts h).pc, origin c new.pc)) None
  moves = rw (reads, is, going, there) (by_test (transfers i))
    where
      by_test : (b : Bool) → cond {A = Option (ℕ × ℕ)} (b && true) (Some (origin c (hart_in s.harts h).pc, origin c new.pc)) None ≡ cond {A = Option (ℕ × ℕ)} b (Some (origin c (hart_in s.harts h).pc, origin c new.pc)) None
      by_test true = refl
      by_test false = refl

  transferred : transfer_with c.word (origin c) p h s ≡ cond {A = Option (ℕ × ℕ)} (transfers i) (Some (origin c (hart_in s.harts h).pc, origin c new.pc)) None
  unfolding transfer_with
  transferred = rw (going, live) (ap (transfer_on (origin c) h (c.word (hart_in s.harts h).pc) s) stepped_with ∙ moves)

  pub moved : replaced_transfer p c h s ≡ cond {A = Option (ℕ × ℕ)} (transfers i) (Some (origin c (hart_in s.harts h).pc, origin c new.pc)) None
  moved = sym (real_moved p c h s _ (ap is_layout is_real) refl) ∙ transferred

noted_one : (h : ℕ) (b : Bool) (t : ℕ × ℕ) (rings : List Notes) → with_transfer h (cond b (Some t) None) rings ≡ with_transfers h (cond b (t ∷ []) []) rings
noted_one h true t rings = refl
noted_one h false t rings = refl

-- ---- in the world
pub real_flies : (h word : ℕ) (i : Instr) (new : Hart) (w : Replaced) → Goes h w → is_layout_step (code_of w) (hart_in w.machine.harts h).pc ≡ false
    → (code_of w).word (hart_in w.machine.harts h).pc ≡ Some word → decoded word ≡ Some i → private_step (origin (code_of w)) w.image i (hart_in w.machine.harts h) ≡ Some new
    → (kind_of h w ≡ Real) × (step_of h w ≡ adopted h (real_flight (origin (code_of w)) i (hart_in w.machine.harts h).pc new) w)
unfolding step_of adopted
real_flies h word i new w g at reads is step =
    let c = code_of w in
    let kind : kind_of h w ≡ Real = is_real c w.image h word i new w.machine g.going g.live at reads is step in
    let machine = machine_made c w.image h word i new w.machine g.going g.live at reads is step in
    let transfer = moved c w.image h word i new w.machine g.going g.live at reads is step in
    let rings = ap (λ t. with_transfer h t w.rings) transfer ∙ noted_one h (transfers i) (origin c (hart_in w.machine.harts h).pc, origin c new.pc) w.rings in
    (kind, λ j. record w { machine = machine j; counts = counted (kind j) w.counts; rings = rings j })

is_layout_here : (c : Code) (h : ℕ) (s : State) → is_some s.outcome ≡ false → is_live (hart_in s.harts h).status ≡ true → is_layout_step c (hart_in s.harts h).pc ≡ true → stepped c h s ≡ Layout
unfolding stepped
is_layout_here c h s going live at = rw (going, live, at) refl

pub layout_flies : (h : ℕ) (w : Replaced) → IsWorld w → Goes h w → is_layout_step (code_of w) (hart_in w.machine.harts h).pc ≡ true
    → (kind_of h w ≡ Layout) × (step_of h w ≡ adopted h (layout_flight (led_in (code_of w) (hart_in w.machine.harts h))) w)
unfolding step_of adopted read
layout_flies h w s g at =
    let c = code_of w in
    let hart = hart_in w.machine.harts h in
    let kind : kind_of h w ≡ Layout = is_layout_here c h w.machine g.going g.live at in
    let l : is_layout (kind_of h w) ≡ true = ap is_layout kind in
    let machine = led_is w.image c s.kept (code_sound w s) s.placed.renders h w.machine (layout_of c h w.machine l)
    ∙ ap (λ (x : Hart). with_hart h x w.machine) (led_hart (read c.word hart.pc) hart) in
    (kind, λ j. record w { machine = machine j; counts = counted (kind j) w.counts; rings = with_transfer h (layout_none w.image c h w.machine l j) w.rings })

-- ---- a real step, with steps of layouts before it
module _ (h : ℕ) (w : Replaced) where
  goes_by : (n : ℕ) (v : Replaced) → kind_of h v ≡ Layout → until_real (suc n) h v ≡ until_real n h (step_of h v)
  unfolding until_real
  goes_by n v e = ap (λ k. cond (is_layout k) (until_real n h (step_of h v)) (step_of h v)) e

  stops_by : (n : ℕ) (v : Replaced) → kind_of h v ≡ Real → until_real (suc n) h v ≡ step_of h v
  unfolding until_real
  stops_by n v e = ap (λ k. cond (is_layout k) (until_real n h (step_of h v)) (step_of h v)) e

  last_by : (v : Replaced) → until_real 1 h v ≡ step_of h v
  unfolding until_real
  last_by v = by_test (is_layout (kind_of h v))
    where
      by_test : (b : Bool) → cond b (step_of h v) (step_of h v) ≡ step_of h v
      by_test true = refl
      by_test false = refl

  pub none_first : kind_of h w ≡ Real → real_step_of h w ≡ step_of h w
  none_first e = stops_by 2 w e

  pub one_first : kind_of h w ≡ Layout → kind_of h (step_of h w) ≡ Real → real_step_of h w ≡ step_of h (step_of h w)
  one_first e f = goes_by 2 w e ∙ stops_by 1 (step_of h w) f

  pub two_first : kind_of h w ≡ Layout → kind_of h (step_of h w) ≡ Layout → real_step_of h w ≡ step_of h (step_of h (step_of h w))
  two_first e f = goes_by 2 w e ∙ goes_by 1 (step_of h w) f ∙ last_by (step_of h (step_of h w))

-- ---- by the word and the point
pub layout_by_word : (p : Picture) (text : List TextRange) (lives : List Laid) (a word : ℕ) (point : Point) → image.IsKept p → Renders (code_in p text lives) → in_range p.region a ≡ true
    → (code_in p text lives).word a ≡ Some word → (code_in p text lives).point a ≡ Some point → is_layout_step (code_in p text lives) a ≡ is_layout_fetch (fetched_as word point)
layout_by_word p text lives a word point k r inside e f =
    sym (layout_fetched (code_in p text lives) a) ∙ sym (ap is_layout_fetch (by_point p k (code_in p text lives) (λ x. refl) a inside r word point e f))

pub nowhere_layout : (p : Picture) (text : List TextRange) (lives : List Laid) (a : ℕ) → (code_in p text lives).point a ≡ None → is_layout_step (code_in p text lives) a ≡ false
nowhere_layout p text lives a e = layout_at (code_in p text lives) a None e
