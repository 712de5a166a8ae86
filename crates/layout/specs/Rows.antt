-- How the words now render the original ones: one case for each kind of original word, each about one address alone.
-- Source: this project.
use Rattle.std.specs.Prelude.{◌≡◌, ◌≢◌, ◌+◌, ◌⊎◌, ℕ, ℤ, Some, None, IsSome}
use Rattle.rv_isa.specs.Conditions.{opposite}
use Rattle.rv_isa.specs.Decoded.{decoded}
use Rattle.rv_isa.specs.declared.instr.Cond.{Cond}
use Rattle.rv_isa.specs.declared.instr.ImmOp.TheVariants.{Addi}
use Rattle.rv_isa.specs.declared.instr.Instr.{Instr}
use Rattle.rv_isa.specs.declared.instr.Instr.TheVariants.{AluImm, Auipc, Jal, Jalr, Branch}
use Rattle.image.specs.Targets.{target, made_by}
use Rattle.layout.specs.declared.point.Point.TheVariants.{Start, Hop, Mid}
use Rattle.layout.specs.Points.{Code, StandsFor, read}

-- the words that are kept as they are, wherever they stand, and that the next one follows
abbrev pub IsKept : Instr → Type 0
IsKept (Auipc rd imm) = rd ≡ 0
IsKept (Jal rd off) = ⊥
IsKept (Jalr rd rs off) = ⊥
IsKept (Branch c rs1 rs2 off) = ⊥
IsKept _ = Unit {0}

-- t is outside the region, or in the same layout as a
abbrev pub Near : Code → (a t : ℕ) → Type 0
Near c a t = (c.home t ≡ None) ⊎ (c.home t ≡ c.home a)

-- the word after a goes on as the original program does at y
pub record Next (c : Code) (a y : ℕ) : Type 0 where
  pub stands : StandsFor c (a + 4) y
  pub near : Near c a (a + 4)

-- a direct jump by a distance from a goes on as the original program does at y
pub record AimsAt (c : Code) (a : ℕ) (off : ℤ) (y : ℕ) : Type 0 where
  pub stands : StandsFor c (target a off) y
  pub near : Near c a (target a off)

-- An AUIPC at x is made in two words at a, away from its own place: the value of the original one, by an AUIPC and an ADDI.
pub record MovedRow (c : Code) (a x rd high : ℕ) : Type 0 where
  pub imm : ℕ
  pub low : ℤ
  pub text : read c.text x ≡ Some (Auipc rd imm)
  pub is_written : rd ≢ 0
  pub first : read c.word a ≡ Some (Auipc rd high)
  pub mid : c.point (a + 4) ≡ Some (Mid x)
  pub home : c.home (a + 4) ≡ c.home a
  pub second : read c.word (a + 4) ≡ Some (AluImm Addi rd rd low)
  pub value : target (made_by a high) low ≡ made_by x imm
  pub next : Next c (a + 4) (x + 4)

-- The word at a, a Start of x. The first two rows are for text alone: a layout has Starts of words that read, and no others.
pub data StartRow (c : Code) (a x : ℕ) : Type 0 where
  no_word : c.text x ≡ None → c.word a ≡ None → StartRow c a x
  unread : (w : ℕ) → c.text x ≡ Some w → decoded w ≡ None → c.word a ≡ Some w → StartRow c a x
  kept : (w : ℕ) (i : Instr) → c.text x ≡ Some w → decoded w ≡ Some i → IsKept i → c.word a ≡ Some w → Next c a (x + 4) → StartRow c a x
  address_in_place : (rd imm : ℕ) → a ≡ x → read c.text x ≡ Some (Auipc rd imm) → read c.word a ≡ Some (Auipc rd imm) → Next c a (x + 4) → StartRow c a x
  address_moved : (rd high : ℕ) → MovedRow c a x rd high → StartRow c a x
  jump : (rd : ℕ) (off aim : ℤ) → read c.text x ≡ Some (Jal rd off) → read c.word a ≡ Some (Jal rd aim)
      → AimsAt c a aim (target x off) → (rd ≢ 0 → Next c a (x + 4)) → StartRow c a x
  site : (rd to : ℕ) (off aim : ℤ) → read c.text x ≡ Some (Jal rd off) → c.site x ≡ Some to → read c.word a ≡ Some (Jal rd aim)
      → c.point (target a aim) ≡ Some (Start to) → (rd ≢ 0 → Next c a (x + 4)) → StartRow c a x
  jump_register : (w rd rs : ℕ) (off : ℤ) → c.text x ≡ Some w → decoded w ≡ Some (Jalr rd rs off) → c.word a ≡ Some w
      → (rd ≢ 0 → Next c a (x + 4)) → StartRow c a x
  call_second : (rd rs to : ℕ) (off aim : ℤ) → read c.text x ≡ Some (Jalr rd rs off) → c.second x ≡ Some to → read c.word a ≡ Some (Jal rd aim)
      → c.point (target a aim) ≡ Some (Start to) → (rd ≢ 0 → Next c a (x + 4)) → StartRow c a x
  branch : (k : Cond) (rs1 rs2 : ℕ) (off aim : ℤ) → read c.text x ≡ Some (Branch k rs1 rs2 off) → read c.word a ≡ Some (Branch k rs1 rs2 aim)
      → AimsAt c a aim (target x off) → Next c a (x + 4) → StartRow c a x
  branch_inverted : (k : Cond) (rs1 rs2 : ℕ) (off aim : ℤ) → read c.text x ≡ Some (Branch k rs1 rs2 off) → read c.word a ≡ Some (Branch (opposite k) rs1 rs2 aim)
      → AimsAt c a aim (x + 4) → Next c a (target x off) → StartRow c a x

-- the word at a, a Hop of x: a jump to a Start of x, and to no other Hop
pub record HopRow (c : Code) (a x : ℕ) : Type 0 where
  pub aim : ℤ
  pub word : read c.word a ≡ Some (Jal 0 aim)
  pub start : c.point (target a aim) ≡ Some (Start x)
  pub near : Near c a (target a aim)

-- the word at m, a Mid of x: it stands after the first word of an AUIPC that was moved from x, and nowhere else
pub record MidRow (c : Code) (m x : ℕ) : Type 0 where
  pub first : ℕ
  pub rd : ℕ
  pub high : ℕ
  pub after : m ≡ first + 4
  pub start : c.point first ≡ Some (Start x)
  pub moved : MovedRow c first x rd high

-- each word of text and of the live layouts renders the original word that it stands for, and what is moved reads
pub record Renders (c : Code) : Type 0 where
  pub starts : (a x : ℕ) → c.point a ≡ Some (Start x) → StartRow c a x
  pub hops : (a x : ℕ) → c.point a ≡ Some (Hop x) → HopRow c a x
  pub mids : (a x : ℕ) → c.point a ≡ Some (Mid x) → MidRow c a x
  pub reads : (a x : ℕ) → IsSome (c.home a) → c.point a ≡ Some (Start x) → IsSome (read c.text x)

-- the word at a goes to a Start of s
pub record GoesTo (c : Code) (a s : ℕ) : Type 0 where
  pub rd : ℕ
  pub aim : ℤ
  pub word : read c.word a ≡ Some (Jal rd aim)
  pub start : c.point (target a aim) ≡ Some (Start s)

-- the word of each call is the original one, or goes to a Start of its function
pub record CallsAim (c : Code) : Type 0 where
  pub sites : (a x s : ℕ) → c.point a ≡ Some (Start x) → c.site x ≡ Some s → (c.word a ≡ c.text x) ⊎ GoesTo c a s
  pub seconds : (a x s : ℕ) → c.point a ≡ Some (Start x) → c.second x ≡ Some s → (c.word a ≡ c.text x) ⊎ GoesTo c a s
