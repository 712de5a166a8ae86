-- An instruction that isn't LR makes no reservation.
use Rattle.std.proofs.Common.{◌≡◌, ℕ, Bool, true, false, cond, List, Option, Some, None, Result, Ok, Err, ap, refl, ◌∙◌}
use Rattle.std.specs.Prelude.{◌==◌, slice_set}
use Rattle.std.proofs.lemmas.List.Elements.{All-set}
use Rattle.rv_isa.specs.declared.instr.Instr.{Instr}
use Rattle.rv_isa.specs.declared.instr.Instr.TheVariants.{Alu, AluImm, ShiftImm, Lui, Auipc, Jal, Jalr, Branch, Load, Store, Lr, Sc, Amo, Fence, Ecall, Ebreak}
use Rattle.link_tags.specs.declared.value.Value.{Value}
use Rattle.link_tags.specs.declared.monitor.LinkFault.{LinkFault}
use Rattle.link_tags.specs.Forbidden.{forbidden}
use Rattle.guest_mem.specs.declared.fault.Access.{Access}
use Rattle.guest_mem.specs.Memory.{Memory, is_link_at}
use Rattle.guest_mem.specs.Access.{size_of, refusal, load_of}
use Rattle.hart.specs.declared.hart.Hart.{Hart}
use Rattle.hart.specs.Harts.{reg, block_of, moved_by}
use Rattle.hart.specs.declared.act.Acted.{Acted}
use Rattle.hart.specs.declared.act.Acted.TheVariants as acted
use Rattle.rv_alu.specs.Arithmetic.{amo_of}
use Rattle.link_tags.specs.declared.value.Tag.TheVariants.{Link}
use Rattle.link_tags.specs.Values.{plain}
use Rattle.hart.specs.Effects.{Effect, next, write, jump, link_use, Acts, effect_of, effect_on, hart_after, goes_on, unless_used, unless_refused, on_load, unless_link, if_held, is_taken, atomic_width, first_source, second_source}
use Rattle.machine.specs.Sharing.{reserves, HoldsNone}

-- after an effect the hart holds nothing
abbrev pub LeavesNone : Hart → Effect → Type 0
LeavesNone h e = (hart_after e h).reservation ≡ None

module _ (h : Hart) where
  used : (o : Option LinkFault) (e : Effect) → h.reservation ≡ None → LeavesNone h e → LeavesNone h (unless_used o e)
  unfolding hart_after
  used None e none leaves = leaves
  used (Some fault) e none leaves = none

  refused : (o : Option Access) (misaligned denied at : ℕ) (e : Effect) → h.reservation ≡ None → LeavesNone h e → LeavesNone h (unless_refused o misaligned denied at e)
  unfolding hart_after
  refused None misaligned denied at e none leaves = leaves
  refused (Some fault) misaligned denied at e none leaves = none

  loaded : (r : Result Value Access) (misaligned denied at : ℕ) (f : Value → Effect) → h.reservation ≡ None → ((v : Value) → LeavesNone h (f v)) → LeavesNone h (on_load r misaligned denied at f)
  unfolding hart_after
  loaded (Ok v) misaligned denied at f none leaves = leaves v
  loaded (Err fault) misaligned denied at f none leaves = none

  either : (b : Bool) (e f : Effect) → LeavesNone h e → LeavesNone h f → LeavesNone h (cond b e f)
  either true e f left right = left
  either false e f left right = right

  held : (o : Option ℕ) (block : ℕ) (e f : Effect) → LeavesNone h e → LeavesNone h f → LeavesNone h (if_held o block e f)
  held None block e f left right = right
  held (Some reserved) block e f left right = either (reserved == block) e f left right

  on_none : (origin : ℕ → ℕ) (m : Memory) (i : Instr) (a b : Value) → reserves i ≡ false → h.reservation ≡ None → LeavesNone h (effect_on origin m h i a b)
  unfolding effect_on hart_after
  on_none origin m (Alu op rd rs1 rs2) a b other none = none
  on_none origin m (AluImm op rd rs1 imm) a b other none = none
  on_none origin m (ShiftImm op rd rs1 by) a b other none = none
  on_none origin m (Lui rd imm) a b other none = none
  on_none origin m (Auipc rd imm) a b other none = none
  on_none origin m (Jal rd off) a b other none = none
  on_none origin m (Jalr rd rs1 off) a b other none = none
  on_none origin m (Branch c rs1 rs2 off) a b other none = either (is_taken c a.number b.number) (jump (moved_by h.pc off) Link None) (goes_on origin m h 0 (plain 0)) none none
  on_none origin m (Load width rd rs1 off) a b other none =
      (let at = moved_by a.number off in
      loaded (load_of origin m at width) 4 5 at (goes_on origin m h rd) none (λ v. none))
  on_none origin m (Store width rs2 rs1 off) a b other none =
      let at = moved_by a.number off in
      refused (refusal m.writable at (size_of width)) 6 7 at (write at width b 0 (plain 0) h.reservation) none none
  on_none origin m (Lr wide order rd rs1) a b other none = absurd cc
  on_none origin m (Sc wide order rd rs1 rs2) a b other none =
      (let at = a.number in
      let width = atomic_width wide in
      let stores = write at width b rd (plain 0) None in
      let fails = next rd (plain 1) None in
      refused (refusal m.writable at (size_of width)) 6 7 at (unless_link m at (if_held h.reservation (block_of at) stores fails)) none
      (either (is_link_at m at) (link_use 4) (if_held h.reservation (block_of at) stores fails) none (held h.reservation (block_of at) stores fails refl refl)))
  on_none origin m (Amo op wide order rd rs1 rs2) a b other none =
      (let at = a.number in
      let width = atomic_width wide in
      let stores : Value → Effect = λ v. write at width (plain (amo_of op wide v.number b.number)) rd v h.reservation in
      refused (refusal m.writable at (size_of width)) 6 7 at (on_load (load_of origin m at width) 6 7 at (λ v. unless_link m at (stores v))) none
      (loaded (load_of origin m at width) 6 7 at (λ v. unless_link m at (stores v)) none (λ v. either (is_link_at m at) (link_use 4) (stores v) none none)))
  on_none origin m (Fence rd rs1 imm) a b other none = none
  on_none origin m Ecall a b other none = none
  on_none origin m Ebreak a b other none = none

-- so a hart that holds nothing goes on without
pub holds_none : (origin : ℕ → ℕ) (m : Memory) (h : Hart) (i : Instr) → reserves i ≡ false → h.reservation ≡ None → (hart_after (effect_of origin m h i) h).reservation ≡ None
unfolding effect_of
holds_none origin m h i other none =
    let a = reg h.regs (first_source i) in
    let b = reg h.regs (second_source i) in
    used h (forbidden i a b) (effect_on origin m h i a b) none (on_none h origin m i a b other none)

pub acts_none : (origin : ℕ → ℕ) (i : Instr) (h h' : Hart) (m m' : Memory) (result : Acted) → reserves i ≡ false → h.reservation ≡ None → Acts origin (effect_of origin m h i) h h' m m' result → h'.reservation ≡ None
acts_none origin i h h' m m' result other none acts = by_answer result acts
  where
    done : h' ≡ hart_after (effect_of origin m h i) h → h'.reservation ≡ None
    done is = ap (λ (k : Hart). k.reservation) is ∙ holds_none origin m h i other none

    by_answer : (r : Acted) → Acts origin (effect_of origin m h i) h h' m m' r → h'.reservation ≡ None
    by_answer acted.Next a = done a.1
    by_answer (acted.Stored block) a = done a.1
    by_answer (acted.Jump to by link) a = done a.1
    by_answer acted.Call a = done a.1
    by_answer (acted.Trap cause value) a = done a.1
    by_answer (acted.LinkUse rule) a = done a.1
    by_answer acted.NoMemory a = ap (λ (k : Hart). k.reservation) a.1 ∙ none

pub set_none : (hs : List Hart) (h : ℕ) (k : Hart) → HoldsNone hs → k.reservation ≡ None → HoldsNone (slice_set hs h k)
set_none hs h k none is = All-set (λ (x : Hart). x.reservation ≡ None) hs h k is none
