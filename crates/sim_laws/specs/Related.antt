-- When a state of the machine whose code has been moved stands for a state of the original one: what both keep alike is equal, and
-- what names code is a place from which both go on alike. Source: this project.
use Rattle.std.specs.Prelude.{◌≡◌, ◌≢◌, ◌==◌, ℕ, ◌+◌, ◌*◌, ◌%◌, ◌^◌, ◌<◌, Bool, true, false, List, length, All, AllPairs, Option, Some, None, slice_get}
use Rattle.std.specs.List.{list_any}
use Rattle.finite.specs.Maps.{contains}
use Rattle.rv_isa.specs.declared.instr.Instr.TheVariants.{Auipc}
use Rattle.image.specs.Targets.{made_by}
use Rattle.image.specs.Texts.{word_at}
use Rattle.image.specs.Picture.{Picture, is_second}
use Rattle.link_tags.specs.declared.value.Tag.TheVariants.{Plain, Link}
use Rattle.link_tags.specs.declared.value.Value.{Value}
use Rattle.link_tags.specs.Values.{plain}
use Rattle.guest_mem.specs.Memory.{Memory, byte_at, is_link_at, number_at}
use Rattle.hart.specs.declared.hart.Hart.{Hart}
use Rattle.hart.specs.declared.hart.Status.{Status}
use Rattle.hart.specs.declared.hart.Status.TheVariants.{Live, Waiting, Ended}
use Rattle.hart.specs.Harts.{reg}
use Rattle.guest_sys.specs.declared.state.Waiter.{Waiter}
use Rattle.layout.specs.Points.{Code, StandsFor, in_range, read}
use Rattle.layout.specs.Rows.{MovedRow}
use Rattle.machine.specs.States.{State}
use Rattle.machine.specs.Harts.{is_live, has_ended, hart_in}

-- two reads find nothing, or they find what R relates
pub data Both {A B : Type 0} (R : A → B → Type 0) : Option A → Option B → Type 0 where
  neither : Both R None None
  found : {a : A} {b : B} → R a b → Both R (Some a) (Some b)

-- the code pointer a goes on as the original program does at x, a word's address outside the region; and no jump by a register ends there
pub record Lands (p : Picture) (c : Code) (a x : ℕ) : Type 0 where
  pub stands : StandsFor c a x
  pub whole : x % 4 ≡ 0
  pub fits : x < 2 ^ 64
  pub outside : in_range p.region x ≡ false
  pub unpaired : is_second p.pairs x ≡ false

-- numbers are equal, and a link goes on as the original one does
pub data ValuesRelated (p : Picture) (c : Code) (v w : Value) : Type 0 where
  both_plain : v.tag ≡ Plain → w.tag ≡ Plain → v.number ≡ w.number → ValuesRelated p c v w
  both_links : v.tag ≡ Link → w.tag ≡ Link → Lands p c v.number w.number → ValuesRelated p c v w

-- ---- memory
-- rights and tags are equal, and so is each byte of a word that is no link; the number of a link goes on as the original one does
pub record MemoriesRelated (p : Picture) (c : Code) (r o : Memory) : Type 0 where
  pub readable : r.readable ≡ o.readable
  pub writable : r.writable ≡ o.writable
  pub links : r.links ≡ o.links
  pub bytes : (a : ℕ) → is_link_at o a ≡ false → byte_at r a ≡ byte_at o a
  pub numbers : (w : ℕ) → contains o.links w ≡ true → Lands p c (number_at r (8 * w)) (number_at o (8 * w))

-- ---- harts
abbrev pub RegsRelated : Picture → Code → List Value → List Value → Type 0
RegsRelated p c rs os = (k : ℕ) → ValuesRelated p c (reg rs k) (reg os k)

abbrev pub RegsRelatedBut : Picture → Code → ℕ → List Value → List Value → Type 0
RegsRelatedBut p c rd rs os = (k : ℕ) → k ≢ rd → ValuesRelated p c (reg rs k) (reg os k)

-- where a hart stands that hasn't ended, by its pc and its registers, and where the original one does
pub data PlacesRelated (p : Picture) (c : Code) (a : ℕ) (rs : List Value) (x : ℕ) (os : List Value) : Type 0 where
  -- it has done what the original one has
  whole : StandsFor c a x → RegsRelated p c rs os → PlacesRelated p c a rs x os
  -- it has made the first word, at b, of an AUIPC that was moved: the register is half made
  half : (b rd high : ℕ) → MovedRow c b x rd high → a ≡ b + 4 → reg rs rd ≡ plain (made_by b high) → RegsRelatedBut p c rd rs os → PlacesRelated p c a rs x os

-- at the second word of a far call, which only its first word leads to, the register of that one holds what it makes
abbrev pub HoldsPair : Picture → ℕ → List Value → Type 0
HoldsPair p x os =
    (first rd imm : ℕ) → x ≡ first + 4 → is_second p.pairs x ≡ true → read (word_at p.texts) first ≡ Some (Auipc rd imm)
    → reg os rd ≡ plain (made_by first imm)

-- a hart that waits is at no half made register and at no second word of a far call
pub record Rests (p : Picture) (c : Code) (r o : Hart) : Type 0 where
  pub stands : StandsFor c r.pc o.pc
  pub unpaired : is_second p.pairs o.pc ≡ false

-- what holds of a hart that hasn't ended
pub record GoOnAlike (p : Picture) (c : Code) (r o : Hart) : Type 0 where
  pub whole : o.pc % 4 ≡ 0
  pub fits : o.pc < 2 ^ 64
  pub outside : in_range p.region o.pc ≡ false
  pub pair : HoldsPair p o.pc o.regs
  pub places : PlacesRelated p c r.pc r.regs o.pc o.regs
  pub rests : is_live o.status ≡ false → Rests p c r o

-- Registers of harts that have ended aren't compared: no step reads them.
pub record HartsRelated (p : Picture) (c : Code) (r o : Hart) : Type 0 where
  pub replaced_length : length r.regs ≡ 32
  pub original_length : length o.regs ≡ 32
  pub status : r.status ≡ o.status
  pub reservation : r.reservation ≡ o.reservation
  pub clear : r.clear ≡ o.clear
  pub alike : has_ended o.status ≡ false → GoOnAlike p c r o

-- ---- waiting
abbrev pub is_waiting : Status → Bool
is_waiting Live = false
is_waiting (Waiting at) = true
is_waiting Ended = false

abbrev pub is_listed : List Waiter → ℕ → Bool
is_listed waiting h = list_any (λ w. w.hart == h) waiting

-- each hart on the list of the waiting ones waits at the address that the list has, and is there once: so whoever is woken has waited;
-- and each hart that waits is there
pub record AreWaiting (waiting : List Waiter) (harts : List Hart) : Type 0 where
  pub wait : All (λ w. (hart_in harts w.hart).status ≡ Waiting w.at) waiting
  pub once : AllPairs (λ v w. v.hart ≢ w.hart) waiting
  pub listed : (h : ℕ) → is_waiting (hart_in harts h).status ≡ true → is_listed waiting h ≡ true

-- ---- the whole state. The system's part is equal: outputs, what is left of the input, break, mappings, waiting list, harts made
pub record StatesRelated (p : Picture) (c : Code) (r o : State) : Type 0 where
  pub outcome : r.outcome ≡ o.outcome
  pub system : r.system ≡ o.system
  pub memory : MemoriesRelated p c r.memory o.memory
  pub harts : (h : ℕ) → Both (HartsRelated p c) (slice_get r.harts h) (slice_get o.harts h)
  pub waiting : AreWaiting o.system.waiting o.harts
