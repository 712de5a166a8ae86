-- What a change of code must leave alone: what live code pointers stand for.
use Rattle.std.specs.Prelude.{◌≡◌, ℕ, ℤ, ◌+◌, ◌*◌, ◌/◌, Bool, true, false, List, [], ◌∷◌, Some, None, slice_get}
use Rattle.finite.specs.Maps.{contains}
use Rattle.rv_isa.specs.declared.instr.Instr.TheVariants.{Jal}
use Rattle.image.specs.Targets.{target}
use Rattle.link_tags.specs.declared.value.Tag.TheVariants.{Link}
use Rattle.hart.specs.declared.hart.Hart.{Hart}
use Rattle.hart.specs.Harts.{reg}
use Rattle.guest_mem.specs.Memory.{Memory, is_link_at, number_at}
use Rattle.guest_mem.specs.Access.{with_link}
use Rattle.layout.specs.declared.point.Point.TheVariants.{Start}
use Rattle.layout.specs.Points.{Code, StandsFor, read}
use Rattle.layout.specs.Rows.{MovedRow}
use Rattle.machine.specs.States.{State}
use Rattle.machine.specs.Harts.{has_ended}
use Rattle.sim_laws.specs.Origins.{origin}

-- a is held as a code pointer: by the pc or a register of a hart that hasn't ended, or by a word of memory
pub data IsPointer (s : State) (a : ℕ) : Type 0 where
  at_pc : (h : ℕ) (hart : Hart) → slice_get s.harts h ≡ Some hart → has_ended hart.status ≡ false → hart.pc ≡ a → IsPointer s a
  in_register : (h k : ℕ) (hart : Hart) → slice_get s.harts h ≡ Some hart → has_ended hart.status ≡ false
      → (reg hart.regs k).tag ≡ Link → (reg hart.regs k).number ≡ a → IsPointer s a
  in_memory : (w : ℕ) → contains s.memory.links w ≡ true → number_at s.memory (8 * w) ≡ a → IsPointer s a

-- from code c to code d each live pointer goes on to stand for what it stood for
pub record KeepsPointers (c d : Code) (s : State) : Type 0 where
  pub stands : (a x : ℕ) → IsPointer s a → StandsFor c a x → StandsFor d a x
  pub moved : (b x rd high : ℕ) → IsPointer s (b + 4) → MovedRow c b x rd high → MovedRow d b x rd high

-- ---- links in memory
-- links, each by an address in its word, with other numbers
abbrev pub with_links : List (ℕ × ℕ) → Memory → Memory
with_links [] m = m
with_links (l ∷ ls) m = with_links ls (with_link m l.0 l.1)

-- the word is a link, and the other number stands for what the link does
abbrev pub IsSent : Code → Memory → ℕ × ℕ → Type 0
IsSent c m l = (is_link_at m l.0 ≡ true) × StandsFor c l.1 (origin c (number_at m (8 * (l.0 / 8))))

abbrev pub with_memory : Memory → State → State
with_memory m s = record s { memory = m }

-- ---- layouts that are given up
-- From code c to code d there is nothing more at the addresses that are gone, and every other address is as it was. They are those of
-- whole layouts.
pub record GivesUp (gone : ℕ → Bool) (c d : Code) : Type 0 where
  pub text : (x : ℕ) → d.text x ≡ c.text x
  pub site : (x : ℕ) → d.site x ≡ c.site x
  pub second : (x : ℕ) → d.second x ≡ c.second x
  pub lost : (a : ℕ) → gone a ≡ true → d.point a ≡ None
  pub word : (a : ℕ) → gone a ≡ false → d.word a ≡ c.word a
  pub point : (a : ℕ) → gone a ≡ false → d.point a ≡ c.point a
  pub home : (a : ℕ) → gone a ≡ false → d.home a ≡ c.home a
  pub outside : (a : ℕ) → c.home a ≡ None → gone a ≡ false
  pub whole : (a b : ℕ) → c.home a ≡ c.home b → gone a ≡ gone b

-- the word at a goes to no address that is gone
abbrev pub StaysClear : (gone : ℕ → Bool) → Code → ℕ → Type 0
StaysClear gone c a = (rd : ℕ) (aim : ℤ) → read c.word a ≡ Some (Jal rd aim) → gone (target a aim) ≡ false

-- no call that is left goes to an address that is gone
pub record LeavesCalls (gone : ℕ → Bool) (c : Code) : Type 0 where
  pub sites : (a x to : ℕ) → gone a ≡ false → c.point a ≡ Some (Start x) → c.site x ≡ Some to → StaysClear gone c a
  pub seconds : (a x to : ℕ) → gone a ≡ false → c.point a ≡ Some (Start x) → c.second x ≡ Some to → StaysClear gone c a

-- no live code pointer names one
abbrev pub LeavesPointers : (gone : ℕ → Bool) → State → Type 0
LeavesPointers gone s = (a : ℕ) → IsPointer s a → gone a ≡ false
