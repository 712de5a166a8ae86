-- Steps by a copy of the code, with a note of each. For the crate's own use. Source: this project.
use Rattle.std.specs.Prelude.{◌≡◌, ℕ, ◌+◌, ◌*◌, ◌%◌, ◌==◌, ◌≤◌, Bool, true, false, not, ◌&&◌, ◌||◌, List, [], ◌∷◌, ◌++◌, length, Option, Some, None, if◌then◌else◌}
use Rattle.std.specs.List.{list_any}
use Rattle.guest_mem.specs.Memory.{blank}
use Rattle.hart.specs.declared.hart.Hart.{Hart}
use Rattle.hart.specs.Harts.{jumped}
use Rattle.hart.specs.Effects.{Effect, next, jump, effect_of, hart_after, is_private}
use Rattle.image.specs.Picture.{Picture, is_second}
use Rattle.image.specs.Texts.{covers}
use Rattle.layout.specs.declared.point.Point.{Point}
use Rattle.layout.specs.declared.point.Point.TheVariants.{Start, Hop, Mid}
use Rattle.link_tags.specs.declared.value.Tag.{Tag}
use Rattle.link_tags.specs.Values.{is_link, original}
use Rattle.machine.specs.Steps.{is_indirect}
use Rattle.machine.specs.Transfers.{transfers}
use Rattle.rv_isa.specs.Decoded.{decoded}
use Rattle.rv_isa.specs.declared.instr.Instr.{Instr}
use Rattle.sim_laws.specs.Origins.{is_moved_address}
use Rattle.world.specs.Adopting.{adopted, Shown, shown_of}
use Rattle.world.specs.Runs.{until_real}
use Rattle.world.specs.Worlds.{Replaced, IsWorld, code_of}
use Rattle.ahead.specs.declared.note.Aimed.{Aimed}
use Rattle.ahead.specs.declared.note.Note.{Note}
use Rattle.ahead.specs.declared.note.Sort.{Sort}
use Rattle.ahead.specs.declared.note.Sort.TheVariants.{Transfer, Other}
use Rattle.ahead.specs.Flown.{Place, place_of, flight_to, IsAt, Agree, AreSeen, Leads}
use Rattle.ahead.specs.Going.{before_real, goes_alone}

-- ---- one instruction
-- what an indirect jump rests on
abbrev pub aimed : (origin : ℕ → ℕ) → Picture → ℕ → Tag → Aimed
aimed origin p to by =
    let x = original origin (record { number = to; tag = by }) in
    record { to = to; tag = by; original = x; in_text = list_any (covers x) p.texts; is_second = is_second p.pairs x }

-- it ends no run
abbrev pub lands : Aimed → Bool
lands a = (a.original % 4 == 0) && (is_link a.tag || a.in_text) && not a.is_second

-- A direct jump rests on its word alone: its target is a whole word's address exactly where the original one is.
abbrev pub jump_gone : (origin : ℕ → ℕ) → Picture → (indirect : Bool) → (to : ℕ) → Tag → Option ℕ → Hart → Option (Hart × Option Aimed)
jump_gone origin p true to by link k = if lands (aimed origin p to by) then Some (jumped k to link, Some (aimed origin p to by)) else None
jump_gone origin p false to by link k = if to % 4 == 0 then Some (jumped k to link, None) else None

-- what an effect makes of a hart, unless the run ends or more than registers and pc is needed, and what its jump rests on
abbrev pub gone_by : (origin : ℕ → ℕ) → Picture → (indirect : Bool) → Effect → Hart → Option (Hart × Option Aimed)
gone_by origin p indirect (next rd value held) k = Some (hart_after (next rd value held) k, None)
gone_by origin p indirect (jump to by link) k = jump_gone origin p indirect to by link k
gone_by origin p indirect _ k = None

unfoldable pub gone : (origin : ℕ → ℕ) → Picture → Instr → Hart → Option (Hart × Option Aimed)
gone origin p i k = if is_private i then gone_by origin p (is_indirect i) (effect_of origin blank k i) k else None

-- ---- steps with their notes
-- A step on this word is one of layouts alone: at a Hop, or on an AUIPC that writes a register and stands for one at another place.
abbrev pub is_layout_at : (at word : ℕ) → Point → Bool
is_layout_at at word (Start x) = is_moved_address at x (decoded word)
is_layout_at at word (Hop x) = true
is_layout_at at word (Mid x) = false

-- what a real step on an instruction is
abbrev pub sort_of : Instr → Sort
sort_of i = if transfers i then Transfer else Other

-- From one place to another in at most m steps, the last of them a real one, wherever the notes agree
abbrev pub Reaches : (m h : ℕ) (from to : Place) (notes : List Note) → Type 0
Reaches m h from to notes = (w : Replaced) → IsWorld w → IsAt h from w → Agree w notes → until_real m h w ≡ adopted h (flight_to (code_of w) to 1 notes) w

-- the first note is one of a step at an address
abbrev pub BeginsAt : ℕ → List Note → Type 0
BeginsAt a [] = ⊥
BeginsAt a (n ∷ ns) = n.at ≡ a

-- by this code a hart makes one real step, with steps of layouts before it, m at most in all
pub record MakesOne (m : ℕ) (s : Shown) (k new : Hart) (notes : List Note) : Type 0 where
  pub few : length notes ≤ m
  pub begins : BeginsAt k.pc notes
  pub seen : AreSeen s notes
  pub reaches : (h : ℕ) → Reaches m h (place_of k) (place_of new) notes

-- by this code a hart makes so many, wherever they are added to those before
pub record Makes (real : ℕ) (s : Shown) (k new : Hart) (notes : List Note) : Type 0 where
  pub few : length notes ≤ 3 * real
  pub seen : AreSeen s notes
  pub leads : (h before : ℕ) (from : Place) (ns : List Note) → Leads h before from (place_of k) ns → Leads h (before + real) from (place_of new) (ns ++ notes)

-- by this code no hart at this place goes on after m steps of layouts alone at most
abbrev pub Stops : (m : ℕ) → Shown → Hart → Type 0
Stops m s k = (h : ℕ) (w : Replaced) → IsWorld w → shown_of w ≡ s → IsAt h (place_of k) w → goes_alone h (before_real m h w) ≡ false

-- the notes of one real step, and of several, stand behind those before
pub record Adds (m : ℕ) (s : Shown) (k new : Hart) (before after : List Note) : Type 0 where
  pub notes : List Note
  pub added : after ≡ before ++ notes
  pub one : MakesOne m s k new notes

pub record AddsMany (real : ℕ) (s : Shown) (k new : Hart) (before after : List Note) : Type 0 where
  pub notes : List Note
  pub added : after ≡ before ++ notes
  pub all : Makes real s k new notes
