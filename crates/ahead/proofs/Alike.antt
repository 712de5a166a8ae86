-- Harts with the same registers and pc do the same on a private instruction.
use Rattle.std.proofs.Common.{◌≡◌, ℕ, ◌%◌, ◌==◌, Bool, true, false, cond, refl, sym, ap, ◌∙◌, subst}
use Rattle.std.specs.Prelude.{Option, Some, None}
use Rattle.std.specs.Option.{option_map_or}
use Rattle.std.proofs.lemmas.Bool.{false≢true}
use Rattle.rv_isa.specs.declared.instr.Instr.{Instr}
use Rattle.rv_isa.specs.declared.instr.Instr.TheVariants.{Alu, AluImm, ShiftImm, Lui, Auipc, Jal, Jalr, Branch, Load, Store, Lr, Sc, Amo, Fence, Ecall, Ebreak}
use Rattle.image.specs.Picture.{Picture}
use Rattle.link_tags.specs.declared.monitor.LinkFault.{LinkFault}
use Rattle.link_tags.specs.declared.value.Tag.{Tag}
use Rattle.link_tags.specs.declared.value.Tag.TheVariants.{Link}
use Rattle.link_tags.specs.declared.value.Value.{Value}
use Rattle.link_tags.specs.Forbidden.{forbidden}
use Rattle.link_tags.specs.Values.{plain}
use Rattle.guest_mem.specs.Memory.{blank}
use Rattle.hart.specs.declared.hart.Hart.{Hart}
use Rattle.hart.specs.Harts.{reg, jumped, moved_by}
use Rattle.hart.specs.Effects.{Effect, next, write, jump, call, trap, link_use, effect_of, effect_on, unless_used, is_taken, hart_after, is_private, first_source, second_source}
use Rattle.layout.specs.Points.{Code}
use Rattle.machine.specs.Steps.{is_indirect}
use Rattle.sim_laws.specs.Origins.{origin}
use Rattle.ahead.specs.declared.note.Aimed.{Aimed}
use Rattle.ahead.specs.Notes.{first_apart, compared_aim}
use Rattle.ahead.specs.Making.{aimed, lands, jump_gone, gone_by, gone}
use Rattle.ahead.proofs.Agreeing.{aim_agrees}

-- an effect that leaves this reservation
abbrev pub leaving : Option ℕ → Effect → Effect
leaving r (next rd value held) = next rd value r
leaving r (write at width v rd value held) = write at width v rd value held
leaving r (jump to by link) = jump to by link
leaving r call = call
leaving r (trap cause value) = trap cause value
leaving r (link_use rule) = link_use rule

-- a hart with the registers and pc of another
abbrev pub placed : Hart → Hart → Hart
placed k other = record other { regs = k.regs; pc = k.pc }

module _ (org org' : ℕ → ℕ) (k other : Hart) where
  by_taken : (t : Bool) (to : ℕ) → cond t (jump to Link None) (next 0 (plain 0) other.reservation) ≡ leaving other.reservation (cond t (jump to Link None) (next 0 (plain 0) k.reservation))
  by_taken true to = refl
  by_taken false to = refl

  alike_on : (i : Instr) (a b : Value) → is_private i ≡ true → effect_on org' blank (placed k other) i a b ≡ leaving other.reservation (effect_on org blank k i a b)
  unfolding effect_on
  alike_on (Alu op rd rs1 rs2) a b e = refl
  alike_on (AluImm op rd rs1 imm) a b e = refl
  alike_on (ShiftImm op rd rs1 by) a b e = refl
  alike_on (Lui rd imm) a b e = refl
  alike_on (Auipc rd imm) a b e = refl
  alike_on (Jal rd off) a b e = refl
  alike_on (Jalr rd rs1 off) a b e = refl
  alike_on (Branch c rs1 rs2 off) a b e = by_taken (is_taken c a.number b.number) (moved_by k.pc off)
  alike_on (Fence rd rs1 imm) a b e = refl
  alike_on (Load width rd rs1 off) a b e = absurd (false≢true e)
  alike_on (Store width rs2 rs1 off) a b e = absurd (false≢true e)
  alike_on (Lr wide order rd rs1) a b e = absurd (false≢true e)
  alike_on (Sc wide order rd rs1 rs2) a b e = absurd (false≢true e)
  alike_on (Amo op wide order rd rs1 rs2) a b e = absurd (false≢true e)
  alike_on Ecall a b e = absurd (false≢true e)
  alike_on Ebreak a b e = absurd (false≢true e)

  alike_used : (o : Option LinkFault) (e f : Effect) → e ≡ leaving other.reservation f → unless_used o e ≡ leaving other.reservation (unless_used o f)
  alike_used None e f is = is
  alike_used (Some fault) e f is = refl

  pub alike : (i : Instr) → is_private i ≡ true → effect_of org' blank (placed k other) i ≡ leaving other.reservation (effect_of org blank k i)
  unfolding effect_of
  alike i e =
      let a = reg k.regs (first_source i) in
      let b = reg k.regs (second_source i) in
      alike_used (forbidden i a b) (effect_on org' blank (placed k other) i a b) (effect_on org blank k i a b) (alike_on i a b e)

-- ---- what they become
abbrev pub given : Bool → Hart → Option Aimed → Option (Hart × Option Aimed)
given t k aim = cond {A = Option (Hart × Option Aimed)} t (Some (k, aim)) None

pub some_pair : (k new : Hart) (a aim : Option Aimed) → given true k a ≡ given true new aim → (k ≡ new) × (a ≡ aim)
some_pair k new a aim e = (
  ap (λ (o : Option (Hart × Option Aimed)). option_map_or (λ (q : Hart × Option Aimed). q.0) o k) e,
  ap (λ (o : Option (Hart × Option Aimed)). option_map_or (λ (q : Hart × Option Aimed). q.1) o a) e,
)

module _ (org : ℕ → ℕ) (p p' : Picture) (c : Code) (k other new : Hart) (aim : Option Aimed) (agree : first_apart (compared_aim p' c aim) ≡ None) where
  jumped_alike : (to : ℕ) (link : Option ℕ) → jumped k to link ≡ new → jumped (placed k other) to link ≡ placed new other
  jumped_alike to None e = ap (λ (x : Hart). placed x other) e
  jumped_alike to (Some rd) e = ap (λ (x : Hart). placed x other) e

  next_alike : (rd : ℕ) (value : Value) (held : Option ℕ) → hart_after (next rd value held) k ≡ new → hart_after (next rd value other.reservation) (placed k other) ≡ placed new other
  unfolding hart_after
  next_alike rd value held e = ap (λ (x : Hart). placed x other) e

  direct_alike : (t : Bool) (to : ℕ) (link : Option ℕ) → given t (jumped k to link) None ≡ given true new aim → given t (jumped (placed k other) to link) None ≡ given true (placed new other) aim
  direct_alike false to link e = absurd (cc)
  direct_alike true to link e =
      let q = some_pair (jumped k to link) new None aim e in
      λ i. given true (jumped_alike to link q.0 i) (q.1 i)

  indirect_alike : (t : Bool) (to : ℕ) (by : Tag) (link : Option ℕ) → lands (aimed org p to by) ≡ t
      → given t (jumped k to link) (Some (aimed org p to by)) ≡ given true new aim
      → given (lands (aimed (origin c) p' to by)) (jumped (placed k other) to link) (Some (aimed (origin c) p' to by)) ≡ given true (placed new other) aim
  indirect_alike false to by link is e = absurd (cc)
  indirect_alike true to by link is e =
      let q = some_pair (jumped k to link) new (Some (aimed org p to by)) aim e in
      let a = aim_agrees p p' org c to by (ap (λ (o : Option Aimed). first_apart (compared_aim p' c o)) q.1 ∙ agree) in
      (λ i. given (lands (a i)) (jumped_alike to link q.0 i) (Some (a i)))
      ∙ (λ i. given (is i) (placed new other) (q.1 i))

  jump_alike : (indirect : Bool) (to : ℕ) (by : Tag) (link : Option ℕ) → jump_gone org p indirect to by link k ≡ given true new aim
      → jump_gone (origin c) p' indirect to by link (placed k other) ≡ given true (placed new other) aim
  jump_alike true to by link e = indirect_alike (lands (aimed org p to by)) to by link refl e
  jump_alike false to by link e = direct_alike (to % 4 == 0) to link e

  gone_alike_by : (indirect : Bool) (e : Effect) → gone_by org p indirect e k ≡ given true new aim
      → gone_by (origin c) p' indirect (leaving other.reservation e) (placed k other) ≡ given true (placed new other) aim
  gone_alike_by indirect (next rd value held) e =
      let q = some_pair (hart_after (next rd value held) k) new None aim e in
      λ i. given true (next_alike rd value held q.0 i) (q.1 i)
  gone_alike_by indirect (jump to by link) e = jump_alike indirect to by link e
  gone_alike_by indirect (write at width v rd value held) e = absurd (cc)
  gone_alike_by indirect call e = absurd (cc)
  gone_alike_by indirect (trap cause value) e = absurd (cc)
  gone_alike_by indirect (link_use rule) e = absurd (cc)

  pub gone_alike : (i : Instr) → gone org p i k ≡ given true new aim → gone (origin c) p' i (placed k other) ≡ given true (placed new other) aim
  unfolding gone
  gone_alike i e = by_test (is_private i) refl e
    where
      by_test : (b : Bool) → is_private i ≡ b → cond b (gone_by org p (is_indirect i) (effect_of org blank k i) k) None ≡ given true new aim
          → cond b (gone_by (origin c) p' (is_indirect i) (effect_of (origin c) blank (placed k other) i) (placed k other)) None ≡ given true (placed new other) aim
      by_test false is e = absurd (cc)
      by_test true is e =
          ap (λ (f : Effect). gone_by (origin c) p' (is_indirect i) f (placed k other)) (alike org (origin c) k other i is)
          ∙ gone_alike_by (is_indirect i) (effect_of org blank k i) e
