-- What goes on by registers and pc alone makes the private step of the world.
use Rattle.std.proofs.Common.{◌≡◌, ℕ, ◌%◌, ◌==◌, Bool, true, false, cond, refl, sym, ap, ◌∙◌, subst}
use Rattle.std.specs.Prelude.{Option, Some, None, not, ◌&&◌, ◌||◌}
use Rattle.std.specs.List.{list_any}
use Rattle.std.specs.Option.{option_map}
use Rattle.std.proofs.lemmas.Bool.{false≢true}
use Rattle.rv_isa.specs.declared.instr.Instr.{Instr}
use Rattle.rv_isa.specs.declared.instr.Instr.TheVariants.{Alu, AluImm, ShiftImm, Lui, Auipc, Jal, Jalr, Branch, Load, Store, Lr, Sc, Amo, Fence, Ecall, Ebreak}
use Rattle.image.specs.Picture.{Picture, is_second}
use Rattle.image.specs.Texts.{covers}
use Rattle.link_tags.specs.declared.monitor.LinkFault.{LinkFault}
use Rattle.link_tags.specs.declared.value.Tag.{Tag}
use Rattle.link_tags.specs.declared.value.Tag.TheVariants.{Plain, Link}
use Rattle.link_tags.specs.declared.value.Value.{Value}
use Rattle.link_tags.specs.Forbidden.{forbidden}
use Rattle.link_tags.specs.Values.{plain, is_link}
use Rattle.guest_mem.specs.Memory.{blank}
use Rattle.hart.specs.declared.hart.Hart.{Hart}
use Rattle.hart.specs.Harts.{reg, jumped, moved_by}
use Rattle.hart.specs.Effects.{Effect, next, write, jump, call, trap, link_use, effect_of, effect_on, unless_used, is_taken, hart_after, is_private, first_source, second_source}
use Rattle.machine.specs.declared.outcome.Outcome.{Outcome}
use Rattle.machine.specs.declared.outcome.Outcome.TheVariants as out
use Rattle.machine.specs.Steps.{is_indirect, fault_of_jump}
use Rattle.world.specs.Adopting.{unless_fault, after_private, private_step}
use Rattle.ahead.specs.declared.note.Aimed.{Aimed}
use Rattle.ahead.specs.Making.{aimed, lands, jump_gone, gone_by, gone}

-- ---- a direct jump is one by a link
abbrev ByLink : Effect → Type 0
ByLink (jump to by link) = by ≡ Link
ByLink _ = Unit {0}

module _ (org : ℕ → ℕ) (k : Hart) where
  by_taken : (t : Bool) (to : ℕ) → ByLink (cond t (jump to Link None) (next 0 (plain 0) k.reservation))
  by_taken true to = refl
  by_taken false to = tt

  by_link_on : (i : Instr) (a b : Value) → is_private i ≡ true → is_indirect i ≡ false → ByLink (effect_on org blank k i a b)
  unfolding effect_on
  by_link_on (Alu op rd rs1 rs2) a b e d = tt
  by_link_on (AluImm op rd rs1 imm) a b e d = tt
  by_link_on (ShiftImm op rd rs1 by) a b e d = tt
  by_link_on (Lui rd imm) a b e d = tt
  by_link_on (Auipc rd imm) a b e d = tt
  by_link_on (Jal rd off) a b e d = refl
  by_link_on (Jalr rd rs1 off) a b e d = absurd (false≢true (sym d))
  by_link_on (Branch c rs1 rs2 off) a b e d = by_taken (is_taken c a.number b.number) (moved_by k.pc off)
  by_link_on (Fence rd rs1 imm) a b e d = tt
  by_link_on (Load width rd rs1 off) a b e d = absurd (false≢true e)
  by_link_on (Store width rs2 rs1 off) a b e d = absurd (false≢true e)
  by_link_on (Lr wide order rd rs1) a b e d = absurd (false≢true e)
  by_link_on (Sc wide order rd rs1 rs2) a b e d = absurd (false≢true e)
  by_link_on (Amo op wide order rd rs1 rs2) a b e d = absurd (false≢true e)
  by_link_on Ecall a b e d = absurd (false≢true e)
  by_link_on Ebreak a b e d = absurd (false≢true e)

  by_link_used : (o : Option LinkFault) (e : Effect) → ByLink e → ByLink (unless_used o e)
  by_link_used None e l = l
  by_link_used (Some fault) e l = tt

  pub by_link : (i : Instr) → is_private i ≡ true → is_indirect i ≡ false → ByLink (effect_of org blank k i)
  unfolding effect_of
  by_link i e d =
      let a = reg k.regs (first_source i) in
      let b = reg k.regs (second_source i) in
      by_link_used (forbidden i a b) (effect_on org blank k i a b) (by_link_on i a b e d)

-- ---- the tests of a jump
abbrev pub harts : Option (Hart × Option Aimed) → Option Hart
harts o = option_map (λ (q : Hart × Option Aimed). q.0) o

abbrev given : Bool → Hart → Option Aimed → Option (Hart × Option Aimed)
given t k aim = cond {A = Option (Hart × Option Aimed)} t (Some (k, aim)) None

lands_tests : (whole by_link text second : Bool) (new : Hart) (aim : Option Aimed) (f g l : Outcome)
    → harts (given (whole && (by_link || text) && not second) new aim)
    ≡ unless_fault (cond (not whole) (Some f) (cond (not by_link && not text) (Some g) (cond (true && second) (Some l) None))) new
lands_tests false l t s new aim f g o = refl
lands_tests true true t true new aim f g o = refl
lands_tests true true t false new aim f g o = refl
lands_tests true false true true new aim f g o = refl
lands_tests true false true false new aim f g o = refl
lands_tests true false false s new aim f g o = refl

direct_tests : (whole text second : Bool) (new : Hart) (aim : Option Aimed) (f g l : Outcome)
    → harts (given whole new aim)
    ≡ unless_fault (cond (not whole) (Some f) (cond (not true && not text) (Some g) (cond (false && second) (Some l) None))) new
direct_tests false t s new aim f g o = refl
direct_tests true t s new aim f g o = refl

module _ (org : ℕ → ℕ) (whole : (a : ℕ) → (org a % 4 == 0) ≡ (a % 4 == 0)) (p : Picture) (k : Hart) where
  indirect_passes : (to : ℕ) (by : Tag) (link : Option ℕ)
      → harts (jump_gone org p true to by link k)
      ≡ unless_fault (fault_of_jump p true (org k.pc) (aimed org p to by).original by) (jumped k to link)
  indirect_passes to by link =
      let a = aimed org p to by in
      lands_tests (a.original % 4 == 0) (is_link by) a.in_text a.is_second (jumped k to link) (Some a)
      (out.Trap 0 (org k.pc) a.original) (out.Trap 1 (org k.pc) a.original) (out.Landing a.original)

  direct_passes : (to : ℕ) (by : Tag) (link : Option ℕ) → by ≡ Link
      → harts (jump_gone org p false to by link k)
      ≡ unless_fault (fault_of_jump p false (org k.pc) (aimed org p to by).original by) (jumped k to link)
  direct_passes to Plain link e = absurd (cc)
  direct_passes to Link link e =
      let x = org to in
      ap (λ (b : Bool). harts (given b (jumped k to link) None)) (sym (whole to))
      ∙ direct_tests (x % 4 == 0) (list_any (covers x) p.texts) (is_second p.pairs x) (jumped k to link) None
      (out.Trap 0 (org k.pc) x) (out.Trap 1 (org k.pc) x) (out.Landing x)

  passes_by : (indirect : Bool) (e : Effect) → (indirect ≡ false → ByLink e) → harts (gone_by org p indirect e k) ≡ after_private org p indirect e k
  passes_by indirect (next rd value held) l = refl
  passes_by true (jump to by link) l = indirect_passes to by link
  passes_by false (jump to by link) l = direct_passes to by link (l refl)
  passes_by indirect (write at width v rd value held) l = refl
  passes_by indirect call l = refl
  passes_by indirect (trap cause value) l = refl
  passes_by indirect (link_use rule) l = refl

  pub passes : (i : Instr) → harts (gone org p i k) ≡ private_step org p i k
  unfolding gone private_step
  passes i = by_test (is_private i) refl
    where
      by_test : (b : Bool) → is_private i ≡ b
          → harts (cond b (gone_by org p (is_indirect i) (effect_of org blank k i) k) None) ≡ cond b (after_private org p (is_indirect i) (effect_of org blank k i) k) None
      by_test false is = refl
      by_test true is = passes_by (is_indirect i) (effect_of org blank k i) (λ d. by_link org k i is d)
