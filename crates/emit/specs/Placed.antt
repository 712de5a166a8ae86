-- A layout at its base.
use Rattle.std.specs.Prelude.{◌≡◌, ◌<◌, ◌≤◌, ◌⊎◌, ℕ, ◌+◌, ◌-◌, ◌*◌, ◌/◌, ◌%◌, ◌^◌, ℤ, pos, ◌-ℤ◌, true, List, [], ◌∷◌, length, slice_get, Option, Some}
use Rattle.std.specs.List.{cons_option}
use Rattle.std.specs.Option.{option_map}
use Rattle.rv_isa.specs.Word.{signed}
use Rattle.rv_isa.specs.Decoded.{decoded}
use Rattle.rv_isa.specs.Ranges.{IsOffJ}
use Rattle.rv_isa.specs.declared.instr.ImmOp.TheVariants.{Addi}
use Rattle.rv_isa.specs.declared.instr.Instr.TheVariants as instr
use Rattle.image.specs.declared.ranges.Aim.{Aim}
use Rattle.layout.specs.declared.point.Point.{Point}
use Rattle.layout.specs.Alone.{called_at}
use Rattle.emit.specs.declared.entry.To.{To}
use Rattle.emit.specs.declared.entry.To.TheVariants.{Here, There, Over}
use Rattle.emit.specs.declared.entry.Made.{Made}
use Rattle.emit.specs.declared.entry.Made.TheVariants.{Same, Jump, Branch, High, Low}
use Rattle.emit.specs.declared.entry.Entry.{Entry}
use Rattle.emit.specs.declared.fault.EmitFault.{EmitFault}
use Rattle.emit.specs.declared.fault.EmitFault.TheVariants as fault
use Rattle.emit.specs.Entries.{place, reaches}

-- the address to which a jump at a goes
abbrev pub aim : ℕ → List Entry → ℕ → To → ℕ
aim base es a (Here y) = base + 4 * place y es
aim base es a (There y) = y
aim base es a Over = a + 8

-- how far v is from a as a number of 64 bits, and the immediates of an AUIPC at a and an ADDI that add it
abbrev pub ahead : ℕ → ℕ → ℕ
ahead a v = (v + 2 ^ 64 - a) % 2 ^ 64

abbrev pub high_of : ℕ → ℕ → ℕ
high_of a v = (ahead a v + 2048) / 4096 % 2 ^ 20

abbrev pub low_of : ℕ → ℕ → ℤ
low_of a v = signed 12 (ahead a v % 2 ^ 12)

-- an AUIPC at a and an ADDI can make v: what the AUIPC adds is a signed number of 32 bits
abbrev pub InReach : ℕ → ℕ → Type 0
InReach a v = ((ahead a v + 2048) % 2 ^ 64 < 2 ^ 31) ⊎ (2 ^ 64 - 2 ^ 31 ≤ (ahead a v + 2048) % 2 ^ 64)

-- the word w is what stands at a
abbrev pub IsMade : ℕ → List Entry → ℕ → Made → ℕ → Type 0
IsMade base es a (Same v) w = w ≡ v
IsMade base es a (Jump rd to) w = decoded w ≡ Some (instr.Jal rd (pos (aim base es a to) -ℤ pos a))
IsMade base es a (Branch c rs1 rs2 to) w = decoded w ≡ Some (instr.Branch c rs1 rs2 (pos (aim base es a to) -ℤ pos a))
IsMade base es a (High rd v) w = decoded w ≡ Some (instr.Auipc rd (high_of a v))
IsMade base es a (Low rd v) w = decoded w ≡ Some (instr.AluImm Addi rd rd (low_of (a - 4) v))

-- the words are those of the layout at its base, as far as they come
pub record AreMade (base : ℕ) (es : List Entry) (ws : List ℕ) : Type 0 where
  pub words : (k w : ℕ) (e : Entry) → slice_get es k ≡ Some e → slice_get ws k ≡ Some w → IsMade base es (base + 4 * k) e.made w

-- What stands at a can't be made there: a JAL's target is out of reach, or an address for an AUIPC and an ADDI. Nothing else ever is.
abbrev pub IsOut : ℕ → List Entry → ℕ → Made → Type 0
IsOut base es a (Jump rd to) = IsOffJ (pos (aim base es a to) -ℤ pos a) → ⊥
IsOut base es a (High rd v) = InReach a v → ⊥
IsOut base es a _ = ⊥

-- what a word out of reach wants to reach
abbrev pub wanted : ℕ → List Entry → ℕ → Made → ℕ
wanted base es a (Same v) = v
wanted base es a (Jump rd to) = aim base es a to
wanted base es a (Branch c rs1 rs2 to) = aim base es a to
wanted base es a (High rd v) = v
wanted base es a (Low rd v) = v

-- none of the first n words is out of reach
pub record AreInReach (base : ℕ) (es : List Entry) (n : ℕ) : Type 0 where
  pub reach : (k : ℕ) (e : Entry) → k < n → slice_get es k ≡ Some e → IsOut base es (base + 4 * k) e.made → ⊥

-- the first word that is out of reach stands at an address, and wants the target
pub record IsFirstOut (base : ℕ) (es : List Entry) (at target : ℕ) : Type 0 where
  pub index : ℕ
  pub entry : Entry
  pub stands : slice_get es index ≡ Some entry
  pub is_at : at ≡ base + 4 * index
  pub wants : target ≡ wanted base es at entry.made
  pub out : IsOut base es at entry.made
  pub before : AreInReach base es index

-- the words are the layout at its base
pub record ArePlaced (base : ℕ) (es : List Entry) (ws : List ℕ) : Type 0 where
  pub size : length ws ≡ length es
  pub made : AreMade base es ws
  pub reach : AreInReach base es (length es)

-- ---- the lists of a layout
abbrev pub point_of : Entry → Point
point_of e = e.point

abbrev pub call_at : ℕ → ℕ → Aim
call_at a g = record { at = a; func = g }

-- the words, from an address on, that are Starts of calls of the original program, each with its function
abbrev pub calls_in : (ℕ → Option ℕ) → ℕ → List Entry → List Aim
calls_in calls a [] = []
calls_in calls a (e ∷ es) = cons_option (option_map (call_at a) (called_at calls (Some e.point))) (calls_in calls (a + 4) es)

-- ---- branches
-- the short form of a branch in place k reaches its target wherever the layout stands
abbrev pub IsNear : List Entry → ℕ → To → Type 0
IsNear es k (Here y) = reaches k (place y es) ≡ true
IsNear es k (There y) = ⊥
IsNear es k Over = Unit {0}

abbrev pub MadeNear : List Entry → ℕ → Made → Type 0
MadeNear es k (Branch c rs1 rs2 to) = IsNear es k to
MadeNear es k _ = Unit {0}

pub record AreNear (es : List Entry) : Type 0 where
  pub each : (k : ℕ) (e : Entry) → slice_get es k ≡ Some e → MadeNear es k e.made

-- ---- why there are no words
abbrev pub Stops : ℕ → List Entry → EmitFault → Type 0
Stops base es (fault.Unreadable g why) = ⊥
Stops base es (fault.BranchReach at target) = IsFirstOut base es at target
Stops base es fault.NoMemory = Unit {0}
