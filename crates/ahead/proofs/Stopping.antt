-- What doesn't go on by registers and pc alone isn't private, or ends the run.
use Rattle.std.proofs.Common.{◌≡◌, ℕ, zero, suc, ◌%◌, ◌==◌, Bool, true, false, cond, refl, sym, ap, ◌∙◌, subst}
use Rattle.std.specs.Prelude.{Option, Some, None, not, ◌&&◌, is_some}
use Rattle.std.specs.Option.{option_and_then, option_map_or}
use Rattle.std.proofs.lemmas.Bool.{false≢true}
use Rattle.rv_isa.specs.Decoded.{decoded}
use Rattle.rv_isa.specs.declared.instr.Instr.{Instr}
use Rattle.rv_isa.specs.declared.instr.Instr.TheVariants.{Alu, AluImm, ShiftImm, Lui, Auipc, Jal, Jalr, Branch, Load, Store, Lr, Sc, Amo, Fence, Ecall, Ebreak}
use Rattle.image.specs.Picture.{Picture}
use Rattle.link_tags.specs.declared.monitor.LinkFault.{LinkFault}
use Rattle.link_tags.specs.declared.value.Tag.{Tag}
use Rattle.link_tags.specs.declared.value.Tag.TheVariants.{Link}
use Rattle.link_tags.specs.declared.value.Value.{Value}
use Rattle.link_tags.specs.Forbidden.{forbidden}
use Rattle.link_tags.specs.Values.{plain, original}
use Rattle.guest_mem.specs.Memory.{blank}
use Rattle.hart.specs.declared.hart.Hart.{Hart}
use Rattle.hart.specs.Harts.{reg, with_reg, jumped, moved_by}
use Rattle.world.specs.Fetching.{led_by, led}
use Rattle.hart.specs.Effects.{Effect, next, write, jump, call, trap, link_use, effect_of, effect_on, unless_used, is_taken, hart_after, answer_of, is_private, first_source, second_source}
use Rattle.layout.specs.declared.point.Point.{Point}
use Rattle.layout.specs.declared.point.Point.TheVariants.{Start, Hop, Mid}
use Rattle.layout.specs.Points.{Code, read}
use Rattle.layout.specs.Rows.{Renders}
use Rattle.layout.proofs.TextRows.{read_is}
use Rattle.machine.specs.declared.outcome.Outcome.{Outcome}
use Rattle.machine.specs.declared.outcome.Outcome.TheVariants.{Stalled}
use Rattle.machine.specs.Harts.{is_live, is_stalled, hart_in}
use Rattle.machine.specs.States.{State}
use Rattle.machine.specs.Steps.{is_indirect, fault_of_jump, jumped_unless, ended, by_answer, after_effect, on_fetched, settled}
use Rattle.sim_laws.specs.Origins.{origin, is_moved_address, is_layout_point, is_layout_step}
use Rattle.sim_laws.specs.Steps.{replaced_step, stepped, is_layout}
use Rattle.sim_laws.proofs.HartLists.{live_at}
use Rattle.sim_laws.proofs.LayoutSteps.{stepped_to}
use Rattle.sim_laws.proofs.OneWord.{none_read, read_fetched}
use Rattle.sim_laws.proofs.Settled.{jump_after}
use Rattle.world.specs.Worlds.{Replaced, IsWorld, code_of, kind_of, step_of}
use Rattle.world.proofs.Following.{code_sound}
use Rattle.world.specs.Adopting.{Flight, adopted, layout_flight, led_in, Shown, code_shown, shown_of, unless_fault, after_private, private_step, Goes}
use Rattle.ahead.specs.declared.note.Aimed.{Aimed}
use Rattle.ahead.specs.Flown.{place_of, IsAt}
use Rattle.ahead.specs.Going.{before_real, goes_alone}
use Rattle.ahead.specs.Making.{Stops, aimed, lands, jump_gone, gone_by, gone, is_layout_at}
use Rattle.world.proofs.Private.{effect_alone, layout_flies}
use Rattle.ahead.proofs.Alike.{leaving, placed, given, alike}
use Rattle.ahead.proofs.LayoutNotes.{layout_told, row_tells}
use Rattle.ahead.proofs.OneReal.{hart_at, at_end, world_stays}
use Rattle.ahead.proofs.Passing.{harts, passes}
use Rattle.ahead.proofs.Whole.{origin_whole}

-- ---- a hart that doesn't go on here, doesn't with other rest
module _ (org : ℕ → ℕ) (p : Picture) (k other : Hart) where
  given_none : (t : Bool) (x y : Hart) (a b : Option Aimed) → given t x a ≡ None → given t y b ≡ None
  given_none false x y a b e = refl
  given_none true x y a b e = absurd (cc)

  jump_none : (indirect : Bool) (to : ℕ) (by : Tag) (link : Option ℕ) → jump_gone org p indirect to by link k ≡ None → jump_gone org p indirect to by link (placed k other) ≡ None
  jump_none true to by link e =
      let a = aimed org p to by in
      given_none (lands a) (jumped k to link) (jumped (placed k other) to link) (Some a) (Some a) e
  jump_none false to by link e = given_none (to % 4 == 0) (jumped k to link) (jumped (placed k other) to link) None None e

  none_by : (indirect : Bool) (e : Effect) → gone_by org p indirect e k ≡ None → gone_by org p indirect (leaving other.reservation e) (placed k other) ≡ None
  none_by indirect (next rd value held) e = absurd (cc)
  none_by indirect (jump to by link) e = jump_none indirect to by link e
  none_by indirect (write at width v rd value held) e = refl
  none_by indirect call e = refl
  none_by indirect (trap cause value) e = refl
  none_by indirect (link_use rule) e = refl

  none_alike : (i : Instr) → gone org p i k ≡ None → gone org p i (placed k other) ≡ None
  unfolding gone
  none_alike i e = by_test (is_private i) refl e
    where
      by_test : (b : Bool) → is_private i ≡ b → cond b (gone_by org p (is_indirect i) (effect_of org blank k i) k) None ≡ None
          → cond b (gone_by org p (is_indirect i) (effect_of org blank (placed k other) i) (placed k other)) None ≡ None
      by_test false is e = refl
      by_test true is e =
          ap (λ (f : Effect). gone_by org p (is_indirect i) f (placed k other)) (alike org org k other i is)
          ∙ none_by (is_indirect i) (effect_of org blank k i) e

-- ---- effects of private instructions are neither writes nor calls
abbrev pub IsQuiet : Effect → Type 0
IsQuiet (write at width v rd value held) = ⊥
IsQuiet call = ⊥
IsQuiet _ = Unit {0}

module _ (org : ℕ → ℕ) (k : Hart) where
  quiet_taken : (t : Bool) (to : ℕ) → IsQuiet (cond t (jump to Link None) (next 0 (plain 0) k.reservation))
  quiet_taken true to = tt
  quiet_taken false to = tt

  quiet_on : (i : Instr) (a b : Value) → is_private i ≡ true → IsQuiet (effect_on org blank k i a b)
  unfolding effect_on
  quiet_on (Alu op rd rs1 rs2) a b e = tt
  quiet_on (AluImm op rd rs1 imm) a b e = tt
  quiet_on (ShiftImm op rd rs1 by) a b e = tt
  quiet_on (Lui rd imm) a b e = tt
  quiet_on (Auipc rd imm) a b e = tt
  quiet_on (Jal rd off) a b e = tt
  quiet_on (Jalr rd rs1 off) a b e = tt
  quiet_on (Branch c rs1 rs2 off) a b e = quiet_taken (is_taken c a.number b.number) (moved_by k.pc off)
  quiet_on (Fence rd rs1 imm) a b e = tt
  quiet_on (Load width rd rs1 off) a b e = absurd (false≢true e)
  quiet_on (Store width rs2 rs1 off) a b e = absurd (false≢true e)
  quiet_on (Lr wide order rd rs1) a b e = absurd (false≢true e)
  quiet_on (Sc wide order rd rs1 rs2) a b e = absurd (false≢true e)
  quiet_on (Amo op wide order rd rs1 rs2) a b e = absurd (false≢true e)
  quiet_on Ecall a b e = absurd (false≢true e)
  quiet_on Ebreak a b e = absurd (false≢true e)

  quiet_used : (o : Option LinkFault) (e : Effect) → IsQuiet e → IsQuiet (unless_used o e)
  quiet_used None e q = q
  quiet_used (Some fault) e q = tt

  pub quiet : (i : Instr) → is_private i ≡ true → IsQuiet (effect_of org blank k i)
  unfolding effect_of
  quiet i e =
      let a = reg k.regs (first_source i) in
      let b = reg k.regs (second_source i) in
      quiet_used (forbidden i a b) (effect_on org blank k i a b) (quiet_on i a b e)

-- ---- in the machine
abbrev Over : State → Type 0
Over s = is_some s.outcome ≡ true

settled_over : (s : State) → Over s → Over (settled s)
unfolding settled
settled_over s e = by_test (not (is_some s.outcome) && is_stalled s.harts)
  where
    by_test : (b : Bool) → is_some (cond b (ended Stalled s) s).outcome ≡ true
    by_test true = refl
    by_test false = e

module _ (org : ℕ → ℕ) (p : Picture) (h : ℕ) (indirect : Bool) (s : State) where
  unless_over : (f : Option Outcome) (new : Hart) (to : ℕ) (link : Option ℕ) → unless_fault f new ≡ None → Over (jumped_unless f h to link s)
  unless_over None new to link e = absurd (cc)
  unless_over (Some outcome) new to link e = refl

  over_after : (e : Effect) → IsQuiet e → after_private org p indirect e (hart_in s.harts h) ≡ None → Over (after_effect org p h indirect e s)
  unfolding after_effect by_answer answer_of
  over_after (next rd value held) q e = absurd (cc)
  over_after (jump to by link) q e =
      ap (λ (x : State). is_some x.outcome) (jump_after org p h indirect to by link s)
      ∙ unless_over (fault_of_jump p indirect (org (hart_in s.harts h).pc) (original org (record { number = to; tag = by })) by) (jumped (hart_in s.harts h) to link) to link e
  over_after (write at width v rd value held) q e = absurd q
  over_after call q e = absurd q
  over_after (trap cause value) q e = refl
  over_after (link_use rule) q e = refl

module _ (c : Code) (p : Picture) (h : ℕ) (i : Instr) (s : State) (going : is_some s.outcome ≡ false) (live : is_live (hart_in s.harts h).status ≡ true)
    (reads : read c.word (hart_in s.harts h).pc ≡ Some i) (alone : is_private i ≡ true) (none : private_step (origin c) p i (hart_in s.harts h) ≡ None) where
  none_after : after_private (origin c) p (is_indirect i) (effect_of (origin c) blank (hart_in s.harts h) i) (hart_in s.harts h) ≡ None
  unfolding private_step
  none_after = rw alone at none

  fetched_over : Over (on_fetched (origin c) p h (c.word (hart_in s.harts h).pc) s)
  fetched_over =
      let e = effect_of (origin c) blank (hart_in s.harts h) i in
      ap (λ (x : State). is_some x.outcome)
      (read_fetched (origin c) p h s (hart_in s.harts h) c.word i (live_at s.harts h live) reads
      ∙ ap (λ (f : Effect). after_effect (origin c) p h (is_indirect i) f s) (effect_alone (origin c) s.memory (hart_in s.harts h) i alone))
      ∙ over_after (origin c) p h (is_indirect i) s e (quiet (origin c) (hart_in s.harts h) i alone) none_after

  step_over : Over (replaced_step p c h s)
  unfolding replaced_step
  step_over =
      ap (λ (x : State). is_some x.outcome) (stepped_to c.word (origin c) p h s going live)
      ∙ settled_over (on_fetched (origin c) p h (c.word (hart_in s.harts h).pc) s) fetched_over

-- ---- in the world
kind_told : (h : ℕ) (w : Replaced) (b : Bool) → Goes h w → is_layout_step (code_of w) (hart_in w.machine.harts h).pc ≡ b → is_layout (kind_of h w) ≡ b
unfolding stepped
kind_told h w true g e = rw (g.going, g.live, e) refl
kind_told h w false g e = rw (g.going, g.live, e) refl

before_stop : (m h : ℕ) (w : Replaced) → is_layout (kind_of h w) ≡ false → before_real m h w ≡ w
before_stop zero h w e = refl
before_stop (suc m) h w e = ap (λ (b : Bool). cond b (before_real m h (step_of h w)) w) e

before_past : (m h : ℕ) (w : Replaced) → is_layout (kind_of h w) ≡ true → before_real (suc m) h w ≡ before_real m h (step_of h w)
before_past m h w e = ap (λ (b : Bool). cond b (before_real m h (step_of h w)) w) e

first_fails : (a b c : Bool) → a ≡ true → (not a && b && c) ≡ false
first_fails true b c e = refl
first_fails false b c e = absurd (false≢true e)

second_fails : (a b c : Bool) → b ≡ false → (a && b && c) ≡ false
second_fails true false c e = refl
second_fails true true c e = absurd (false≢true (sym e))
second_fails false b c e = refl

third_fails : (a b c : Bool) → c ≡ true → (a && b && not c) ≡ false
third_fails true true true e = refl
third_fails true false true e = refl
third_fails false b true e = refl
third_fails a b false e = absurd (false≢true e)

step_ends : (h : ℕ) (w : Replaced) (i : Instr) → Goes h w → read (code_of w).word (hart_in w.machine.harts h).pc ≡ Some i → is_private i ≡ true
    → private_step (origin (code_of w)) w.image i (hart_in w.machine.harts h) ≡ None → is_some (step_of h w).machine.outcome ≡ true
unfolding step_of
step_ends h w i g reads alone none = step_over (code_of w) w.image h i w.machine g.going g.live reads alone none

private_read : (o : Option Instr) (b : Bool) (i : Instr) → o ≡ Some i → is_private i ≡ b → option_map_or is_private o false ≡ b
private_read o b i e is = ap (λ (x : Option Instr). option_map_or is_private x false) e ∙ is

-- nothing stands there: no step of layouts alone
none_told : (c : Code) (a : ℕ) → Renders c → c.word a ≡ None → is_layout_step c a ≡ false
unfolding is_layout_step
none_told c a r e = by_point (c.point a) refl
  where
    by_point : (q : Option Point) → c.point a ≡ q → is_layout_point c a q ≡ false
    by_point None f = refl
    by_point (Some (Start x)) f = row_tells c a x (r.starts a x f) ∙ ap (λ (o : Option Instr). is_moved_address a x o) (none_read c.word a e)
    by_point (Some (Hop x)) f = let row = r.hops a x f in absurd (let n = none_read c.word a e in let w = row.word in cc)
    by_point (Some (Mid x)) f = refl

shown_stays : (h : ℕ) (f : Flight) (w : Replaced) → shown_of (adopted h f w) ≡ shown_of w
unfolding adopted
shown_stays h f w = refl

module _ (s : Shown) (k : Hart) (h : ℕ) (w : Replaced) (sound : IsWorld w) (same : shown_of w ≡ s) (at : IsAt h (place_of k) w) where
  word_here : (code_of w).word (hart_in w.machine.harts h).pc ≡ (code_shown s).word k.pc
  word_here = λ i. (code_shown (same i)).word (at.pc i)

  point_here : (code_of w).point (hart_in w.machine.harts h).pc ≡ (code_shown s).point k.pc
  point_here = λ i. (code_shown (same i)).point (at.pc i)

  -- no word
  pub no_word_stops : (m : ℕ) → (code_shown s).word k.pc ≡ None → goes_alone h (before_real m h w) ≡ false
  no_word_stops m e =
      let none = word_here ∙ e in
      let l = none_told (code_of w) (hart_in w.machine.harts h).pc sound.placed.renders none in
      ap (goes_alone h) (before_stop m h w (kind_told h w false at.goes l))
      ∙ second_fails (not (is_layout (kind_of h w))) (option_map_or is_private (read (code_of w).word (hart_in w.machine.harts h).pc) false) (not (is_some (step_of h w).machine.outcome))
      (ap (λ (o : Option Instr). option_map_or is_private o false) (none_read (code_of w).word (hart_in w.machine.harts h).pc none))

  module _ (word : ℕ) (q : Point) (stands : (code_shown s).word k.pc ≡ Some word) (is_for : (code_shown s).point k.pc ≡ Some q) where
    told : is_layout_step (code_of w) (hart_in w.machine.harts h).pc ≡ is_layout_at k.pc word q
    told =
        layout_told (code_of w) (hart_in w.machine.harts h).pc sound.placed.renders word q (word_here ∙ stands) (point_here ∙ is_for)
        ∙ ap (λ (a : ℕ). is_layout_at a word q) at.pc

    reads_here : read (code_of w).word (hart_in w.machine.harts h).pc ≡ decoded word
    reads_here = read_is (code_of w).word (hart_in w.machine.harts h).pc word (decoded word) (word_here ∙ stands) refl

    -- a step of layouts alone, where none may be made
    pub layout_stops : is_layout_at k.pc word q ≡ true → goes_alone h w ≡ false
    layout_stops l =
        first_fails (is_layout (kind_of h w)) (option_map_or is_private (read (code_of w).word (hart_in w.machine.harts h).pc) false) (not (is_some (step_of h w).machine.outcome))
        (kind_told h w true at.goes (told ∙ l))

    -- a word that is none of an instruction
    pub unread_stops : (m : ℕ) → is_layout_at k.pc word q ≡ false → decoded word ≡ None → goes_alone h (before_real m h w) ≡ false
    unread_stops m l d =
        ap (goes_alone h) (before_stop m h w (kind_told h w false at.goes (told ∙ l)))
        ∙ second_fails (not (is_layout (kind_of h w))) (option_map_or is_private (read (code_of w).word (hart_in w.machine.harts h).pc) false) (not (is_some (step_of h w).machine.outcome))
        (ap (λ (o : Option Instr). option_map_or is_private o false) (reads_here ∙ d))

    led_here : led_by (option_and_then decoded ((code_of w).word (hart_in w.machine.harts h).pc)) (hart_in w.machine.harts h).pc ≡ led_by (decoded word) k.pc
    led_here = let e = word_here ∙ stands in λ i. led_by (option_and_then decoded (e i)) (at.pc i)

    -- a step of layouts alone, where none goes on from the place that it leads to
    pub led_stops : (m : ℕ) → is_layout_at k.pc word q ≡ true → Stops m s (led (led_by (decoded word) k.pc) k) → goes_alone h (before_real (suc m) h w) ≡ false
    led_stops m l stops =
        let mid = led (led_by (decoded word) k.pc) k in
        let lf = layout_flight (led_in (code_of w) (hart_in w.machine.harts h)) in
        let f = layout_flies h w sound at.goes (told ∙ l) in
        let regs : lf.regs ≡ mid.regs = λ i. with_reg (at.regs i) (led_here i).rd (led_here i).value in
        let pc : lf.pc ≡ mid.pc = λ i. (led_here i).pc in
        ap (goes_alone h) (before_past m h w (kind_told h w true at.goes (told ∙ l)) ∙ ap (before_real m h) f.1)
        ∙ stops h (adopted h lf w) (world_stays h lf w sound) (shown_stays h lf w ∙ same) (at_end h lf w (place_of mid) at.goes regs pc)

    no_private : (i : Instr) → gone (origin (code_shown s)) s.image i k ≡ None → private_step (origin (code_of w)) w.image i (hart_in w.machine.harts h) ≡ None
    no_private i none =
        ap (private_step (origin (code_of w)) w.image i) (hart_at h k w at)
        ∙ sym (passes (origin (code_of w)) (origin_whole w.image (code_of w) sound.kept (code_sound w sound) sound.placed.renders) w.image (placed k (hart_in w.machine.harts h)) i)
        ∙ ap harts (none_alike (origin (code_of w)) w.image k (hart_in w.machine.harts h) i
        (ap (λ (t : Shown). gone (origin (code_shown t)) t.image i k) same ∙ none))

    gone_by_test : (b : Bool) (i : Instr) → is_private i ≡ b → decoded word ≡ Some i → gone (origin (code_shown s)) s.image i k ≡ None → goes_alone h w ≡ false
    gone_by_test false i is d none =
        second_fails (not (is_layout (kind_of h w))) (option_map_or is_private (read (code_of w).word (hart_in w.machine.harts h).pc) false) (not (is_some (step_of h w).machine.outcome))
        (private_read (read (code_of w).word (hart_in w.machine.harts h).pc) false i (reads_here ∙ d) is)
    gone_by_test true i is d none =
        third_fails (not (is_layout (kind_of h w))) (option_map_or is_private (read (code_of w).word (hart_in w.machine.harts h).pc) false) (is_some (step_of h w).machine.outcome)
        (step_ends h w i at.goes (reads_here ∙ d) is (no_private i none))

    -- an instruction that isn't private or ends the run
    pub gone_stops : (m : ℕ) (i : Instr) → is_layout_at k.pc word q ≡ false → decoded word ≡ Some i → gone (origin (code_shown s)) s.image i k ≡ None
        → goes_alone h (before_real m h w) ≡ false
    gone_stops m i l d none =
        ap (goes_alone h) (before_stop m h w (kind_told h w false at.goes (told ∙ l)))
        ∙ gone_by_test (is_private i) i refl d none
