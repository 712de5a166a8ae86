-- What an instruction does, as a value that is computed from what it reads: the hart, and memory as the program sees it.
-- A second definition applies it. So one definition serves the original machine and any other that differs from it in what it
-- fetches and in `origin`, which gives the original number of a link and the original address of an instruction.
-- Source: the RISC-V Unprivileged ISA, RV64I, "M" and "A", for numbers, reservations and results; this project for tags,
-- causes of traps, and the order: uses of registers, misalignment, access, then the word that an atomic instruction addresses.
use Rattle.std.specs.Prelude.{◌≡◌, ℕ, ◌==◌, int_lt, nat_lt, Bool, true, false, not, Option, Some, None, Result, Ok, Err, if◌then◌else◌}
use Rattle.rv_isa.specs.Word.{signed}
use Rattle.rv_isa.specs.declared.instr.Cond.{Cond}
use Rattle.rv_isa.specs.declared.instr.Cond.TheVariants.{Eq, Ne, Lt, Ge, Ltu, Geu}
use Rattle.rv_isa.specs.declared.instr.AmoOp.{AmoOp}
use Rattle.rv_isa.specs.declared.instr.Width.{Width}
use Rattle.rv_isa.specs.declared.instr.Width.TheVariants.{W, D}
use Rattle.rv_isa.specs.declared.instr.Instr.{Instr}
use Rattle.rv_isa.specs.declared.instr.Instr.TheVariants.{Alu, AluImm, ShiftImm, Lui, Auipc, Jal, Jalr, Branch, Load, Store, Lr, Sc, Amo, Fence, Ecall, Ebreak}
use Rattle.rv_alu.specs.Arithmetic.{alu_of, imm_of, shift_of, amo_of}
use Rattle.link_tags.specs.declared.value.Tag.{Tag}
use Rattle.link_tags.specs.declared.value.Tag.TheVariants.{Link}
use Rattle.link_tags.specs.declared.value.Value.{Value}
use Rattle.link_tags.specs.declared.monitor.LinkFault.{LinkFault}
use Rattle.link_tags.specs.Values.{plain}
use Rattle.link_tags.specs.Forbidden.{forbidden, is_move}
use Rattle.guest_mem.specs.declared.fault.Access.{Access}
use Rattle.guest_mem.specs.declared.fault.Access.TheVariants.{Misaligned, NoAccess}
use Rattle.guest_mem.specs.Memory.{Memory, is_link_at}
use Rattle.guest_mem.specs.Access.{size_of, refusal, load_of, stored}
use Rattle.hart.specs.declared.hart.Hart.{Hart}
use Rattle.hart.specs.declared.act.Acted.{Acted}
use Rattle.hart.specs.declared.act.Acted.TheVariants as acted
use Rattle.hart.specs.Harts.{reg, with_reg, add64, moved_by, after, even, upper, block_of}

pub data Effect : Type 0 where
  -- the next word comes: rd gets a value, and the hart holds this reservation
  next : (rd : ℕ) (value : Value) (held : Option ℕ) → Effect
  -- memory gets a value of a width, and then the same
  write : (at : ℕ) (width : Width) (stored : Value) (rd : ℕ) (value : Value) (held : Option ℕ) → Effect
  -- a jump to an address, by a Plain number or a link, which links in a register
  jump : (to : ℕ) (by : Tag) (link : Option ℕ) → Effect
  call : Effect
  trap : (cause value : ℕ) → Effect
  link_use : (rule : ℕ) → Effect

-- ---- how an effect depends on what is read
-- a use that the monitor forbids
abbrev pub unless_used : Option LinkFault → Effect → Effect
unless_used None e = e
unless_used (Some fault) e = link_use fault.rule

-- the cause of the trap of an access that is refused
abbrev pub cause_of : Access → (misaligned denied : ℕ) → ℕ
cause_of Misaligned misaligned denied = misaligned
cause_of NoAccess misaligned denied = denied

-- an access that may be refused
abbrev pub unless_refused : Option Access → (misaligned denied at : ℕ) → Effect → Effect
unless_refused None misaligned denied at e = e
unless_refused (Some fault) misaligned denied at e = trap (cause_of fault misaligned denied) at

-- a value that is loaded
abbrev pub on_load : Result Value Access → (misaligned denied at : ℕ) → (Value → Effect) → Effect
on_load (Ok v) misaligned denied at use_value = use_value v
on_load (Err fault) misaligned denied at use_value = trap (cause_of fault misaligned denied) at

-- a word that an atomic instruction addresses
abbrev pub unless_link : Memory → ℕ → Effect → Effect
unless_link m at e = if is_link_at m at then link_use 4 else e

-- a block that the hart has reserved
abbrev pub if_held : Option ℕ → ℕ → Effect → Effect → Effect
if_held None block held other = other
if_held (Some reserved) block held other = if reserved == block then held else other

-- ---- operands
-- the registers that an instruction reads; x0 where it reads none
abbrev pub first_source : Instr → ℕ
first_source (Alu op rd rs1 rs2) = rs1
first_source (AluImm op rd rs1 imm) = rs1
first_source (ShiftImm op rd rs1 by) = rs1
first_source (Jalr rd rs1 off) = rs1
first_source (Branch cond rs1 rs2 off) = rs1
first_source (Load width rd rs1 off) = rs1
first_source (Store width rs2 rs1 off) = rs1
first_source (Lr wide order rd rs1) = rs1
first_source (Sc wide order rd rs1 rs2) = rs1
first_source (Amo op wide order rd rs1 rs2) = rs1
first_source _ = 0

abbrev pub second_source : Instr → ℕ
second_source (Alu op rd rs1 rs2) = rs2
second_source (Branch cond rs1 rs2 off) = rs2
second_source (Store width rs2 rs1 off) = rs2
second_source (Sc wide order rd rs1 rs2) = rs2
second_source (Amo op wide order rd rs1 rs2) = rs2
second_source _ = 0

abbrev pub is_taken : Cond → ℕ → ℕ → Bool
is_taken Eq a b = a == b
is_taken Ne a b = not (a == b)
is_taken Lt a b = int_lt (signed 64 a) (signed 64 b)
is_taken Ge a b = not (int_lt (signed 64 a) (signed 64 b))
is_taken Ltu a b = nat_lt a b
is_taken Geu a b = not (nat_lt a b)

abbrev pub atomic_width : Bool → Width
atomic_width wide = if wide then D else W

-- ---- the effect of an instruction, where m is memory and h the hart
module _ (origin : ℕ → ℕ) (m : Memory) (h : Hart) where
  -- a register is written, and all else stands
  abbrev pub goes_on : ℕ → Value → Effect
  goes_on rd v = next rd v h.reservation

  abbrev pub loading : Width → ℕ → ℕ → Effect
  loading width rd at = on_load (load_of origin m at width) 4 5 at (goes_on rd)

  abbrev pub storing : Width → ℕ → Value → Effect
  storing width at b = unless_refused (refusal m.writable at (size_of width)) 6 7 at (write at width b 0 (plain 0) h.reservation)

  -- LR reserves the aligned 8 bytes
  abbrev pub reserving : Width → ℕ → ℕ → Effect
  reserving width rd at = on_load (load_of origin m at width) 4 5 at (λ v. unless_link m at (next rd v (Some (block_of at))))

  -- SC gives the reservation up, and stores only where it held these 8 bytes
  abbrev pub storing_if_held : Width → ℕ → ℕ → Value → Effect
  storing_if_held width rd at b =
      unless_refused (refusal m.writable at (size_of width)) 6 7 at
      (unless_link m at
      (if_held h.reservation (block_of at) (write at width b rd (plain 0) None) (next rd (plain 1) None)))

  -- an AMO needs both rights, and their lack is that of a store
  abbrev pub exchanging : AmoOp → Bool → ℕ → ℕ → Value → Effect
  exchanging op wide rd at b =
      unless_refused (refusal m.writable at (size_of (atomic_width wide))) 6 7 at
      (on_load (load_of origin m at (atomic_width wide)) 6 7 at (λ v.
      unless_link m at
      (write at (atomic_width wide) (plain (amo_of op wide v.number b.number)) rd v h.reservation)))

  -- where the instruction's registers hold a and b, and it uses none as it may not
  unfoldable pub effect_on : Instr → Value → Value → Effect
  effect_on (Alu op rd rs1 rs2) a b = goes_on rd (plain (alu_of op a.number b.number))
  effect_on (AluImm op rd rs1 imm) a b = goes_on rd (if is_move op imm then a else plain (imm_of op a.number imm))
  effect_on (ShiftImm op rd rs1 by) a b = goes_on rd (plain (shift_of op a.number by))
  effect_on (Lui rd imm) a b = goes_on rd (plain (upper imm))
  effect_on (Auipc rd imm) a b = goes_on rd (plain (add64 h.pc (upper imm)))
  effect_on (Jal rd off) a b = jump (moved_by h.pc off) Link (Some rd)
  effect_on (Jalr rd rs1 off) a b = jump (even (moved_by a.number off)) a.tag (Some rd)
  effect_on (Branch cond rs1 rs2 off) a b =
      if is_taken cond a.number b.number then jump (moved_by h.pc off) Link None else goes_on 0 (plain 0)
  effect_on (Load width rd rs1 off) a b = loading width rd (moved_by a.number off)
  effect_on (Store width rs2 rs1 off) a b = storing width (moved_by a.number off) b
  effect_on (Lr wide order rd rs1) a b = reserving (atomic_width wide) rd a.number
  effect_on (Sc wide order rd rs1 rs2) a b = storing_if_held (atomic_width wide) rd a.number b
  effect_on (Amo op wide order rd rs1 rs2) a b = exchanging op wide rd a.number b
  effect_on (Fence rd rs1 imm) a b = goes_on 0 (plain 0)
  effect_on Ecall a b = call
  effect_on Ebreak a b = trap 3 (origin h.pc)

  unfoldable pub effect_of : Instr → Effect
  effect_of i =
      let a = reg h.regs (first_source i) in
      let b = reg h.regs (second_source i) in
      unless_used (forbidden i a b) (effect_on i a b)

-- ---- what an effect leaves
unfoldable pub hart_after : Effect → Hart → Hart
hart_after (next rd value held) h = record h { regs = with_reg h.regs rd value; pc = after h.pc; reservation = held }
hart_after (write at width v rd value held) h = record h { regs = with_reg h.regs rd value; pc = after h.pc; reservation = held }
hart_after _ h = h

unfoldable pub memory_after : (ℕ → ℕ) → Effect → Memory → Memory
memory_after origin (write at width v rd value held) m = stored origin m at width v
memory_after origin _ m = m

-- what is answered of it
unfoldable pub answer_of : Effect → Acted
answer_of (next rd value held) = acted.Next
answer_of (write at width v rd value held) = acted.Stored (block_of at)
answer_of (jump to by link) = acted.Jump to by link
answer_of call = acted.Call
answer_of (trap cause value) = acted.Trap cause value
answer_of (link_use rule) = acted.LinkUse rule

unfoldable pub IsWrite : Effect → Type 0
IsWrite (write at width v rd value held) = Unit {0}
IsWrite _ = ⊥

-- what stands after an effect e, by the answer: h and m were before, and h' and m' are now
abbrev pub Acts : (ℕ → ℕ) → Effect → Hart → Hart → Memory → Memory → Acted → Type 0
Acts origin e h h' m m' acted.NoMemory = IsWrite e × (h' ≡ h) × (m' ≡ m)
Acts origin e h h' m m' answer = (answer ≡ answer_of e) × (h' ≡ hart_after e h) × (m' ≡ memory_after origin e m)

-- ---- which instructions read and write registers and pc alone
abbrev pub is_private : Instr → Bool
is_private (Load width rd rs1 off) = false
is_private (Store width rs2 rs1 off) = false
is_private (Lr wide order rd rs1) = false
is_private (Sc wide order rd rs1 rs2) = false
is_private (Amo op wide order rd rs1 rs2) = false
is_private Ecall = false
is_private Ebreak = false
is_private _ = true
