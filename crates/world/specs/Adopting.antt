-- What a hart does out of the world, on its registers and pc alone, and what the world is once it is taken in. Source: this project.
use Rattle.std.specs.Prelude.{ℕ, zero, suc, ◌+◌, ◌-◌, ◌^◌, ◌≡◌, min, Bool, true, false, List, [], ◌∷◌, ◌++◌, Option, Some, None, is_some, if◌then◌else◌}
use Rattle.std.specs.Option.{option_and_then}
use Rattle.rv_isa.specs.Decoded.{decoded}
use Rattle.rv_isa.specs.declared.instr.Instr.{Instr}
use Rattle.image.specs.declared.ranges.TextRange.{TextRange}
use Rattle.image.specs.Picture.{Picture, IsKept}
use Rattle.link_tags.specs.declared.value.Value.{Value}
use Rattle.link_tags.specs.Values.{original}
use Rattle.guest_mem.specs.Memory.{blank}
use Rattle.hart.specs.declared.hart.Hart.{Hart}
use Rattle.hart.specs.Harts.{jumped}
use Rattle.hart.specs.Effects.{Effect, next, jump, effect_of, hart_after, is_private}
use Rattle.layout.specs.Laid.{Laid}
use Rattle.layout.specs.Points.{Code}
use Rattle.layout.specs.Rows.{Renders}
use Rattle.layout.specs.Apart.{AreApart}
use Rattle.branch_ring.specs.Rings.{Notes}
use Rattle.machine.specs.declared.outcome.Outcome.{Outcome}
use Rattle.machine.specs.Harts.{is_live, hart_in}
use Rattle.machine.specs.Steps.{with_hart, is_indirect, fault_of_jump}
use Rattle.machine.specs.Transfers.{transfers}
use Rattle.world.specs.Fetching.{led_by, led}
use Rattle.world.specs.Rings.{with_transfer}
use Rattle.world.specs.Worlds.{Replaced, code_in}

-- its registers and pc then, how many real steps it made and how many of layouts alone, and the transfers, by original addresses
pub record Flight : Type 0 where
  pub regs : List Value
  pub pc : ℕ
  pub real : ℕ
  pub layout : ℕ
  pub transfers : List (ℕ × ℕ)

-- a count after n more, which stays at the greatest number of 64 bits
abbrev pub more_by : ℕ → ℕ → ℕ
more_by zero c = c
more_by (suc n) c = min (c + suc n) (2 ^ 64 - 1)

-- hart h makes these transfers, one after another
abbrev pub with_transfers : ℕ → List (ℕ × ℕ) → List Notes → List Notes
with_transfers h [] rings = rings
with_transfers h (t ∷ ts) rings = with_transfers h ts (with_transfer h (Some t) rings)

-- the world with what hart h did
unfoldable pub adopted : ℕ → Flight → Replaced → Replaced
adopted h f w = record w {
  machine = with_hart h (record (hart_in w.machine.harts h) { regs = f.regs; pc = f.pc }) w.machine;
  counts = record w.counts { real = more_by f.real w.counts.real; layout = more_by f.layout w.counts.layout };
  rings = with_transfers h f.transfers w.rings;
}

-- all but harts, counts and rings is as it was
pub record StandsBut (w v : Replaced) : Type 0 where
  pub image : v.image ≡ w.image
  pub text : v.text ≡ w.text
  pub lives : v.lives ≡ w.lives
  pub numbers : v.numbers ≡ w.numbers
  pub free : v.free ≡ w.free
  pub memory : v.machine.memory ≡ w.machine.memory
  pub system : v.machine.system ≡ w.machine.system
  pub outcome : v.machine.outcome ≡ w.machine.outcome
  pub refusals : v.refusals ≡ w.refusals
  pub snapshot : v.snapshot ≡ w.snapshot

-- ---- flights
-- no step, of a hart as it stands
abbrev pub no_flight : Hart → Flight
no_flight k = record { regs = k.regs; pc = k.pc; real = 0; layout = 0; transfers = [] }

-- one, and then another
abbrev pub joined : Flight → Flight → Flight
joined f g = record { regs = g.regs; pc = g.pc; real = f.real + g.real; layout = f.layout + g.layout; transfers = f.transfers ++ g.transfers }

-- a step of layouts alone, which leads to this hart
abbrev pub layout_flight : Hart → Flight
layout_flight k = record { regs = k.regs; pc = k.pc; real = 0; layout = 1; transfers = [] }

-- a real step on the instruction i at pc, which leads to this hart
abbrev pub real_flight : (origin : ℕ → ℕ) → Instr → (pc : ℕ) → Hart → Flight
real_flight origin i pc k = record { regs = k.regs; pc = k.pc; real = 1; layout = 0; transfers = if transfers i then (origin pc, origin k.pc) ∷ [] else [] }

-- ---- a step on registers and pc alone
-- a jump that something ends the run in place of isn't made
abbrev pub unless_fault : Option Outcome → Hart → Option Hart
unless_fault None k = Some k
unless_fault (Some outcome) k = None

abbrev pub after_private : (origin : ℕ → ℕ) → Picture → (indirect : Bool) → Effect → Hart → Option Hart
after_private origin p indirect (next rd value held) k = Some (hart_after (next rd value held) k)
after_private origin p indirect (jump to by link) k =
    unless_fault (fault_of_jump p indirect (origin k.pc) (original origin (record { number = to; tag = by })) by) (jumped k to link)
after_private origin p indirect _ k = None

-- What a private instruction makes of a hart, unless it ends the run. It doesn't read memory.
unfoldable pub private_step : (origin : ℕ → ℕ) → Picture → Instr → Hart → Option Hart
private_step origin p i k = if is_private i then after_private origin p (is_indirect i) (effect_of origin blank k i) k else None

-- where a step of layouts alone leads a hart
abbrev pub led_in : Code → Hart → Hart
led_in c k = led (led_by (option_and_then decoded (c.word k.pc)) k.pc) k

-- hart h is live in a run that goes on
pub record Goes (h : ℕ) (w : Replaced) : Type 0 where
  pub going : is_some w.machine.outcome ≡ false
  pub live : is_live (hart_in w.machine.harts h).status ≡ true

-- ---- code that a hart takes with it
-- the image, the words of text now and the live layouts
pub record Shown : Type 0 where
  pub image : Picture
  pub text : List TextRange
  pub lives : List Laid

abbrev pub shown_of : Replaced → Shown
shown_of w = record { image = w.image; text = w.text; lives = w.lives }

abbrev pub code_shown : Shown → Code
code_shown s = code_in s.image s.text s.lives

-- the words and the layouts render the image, which is one that was read, and no two layouts hold one address
pub record IsShown (s : Shown) : Type 0 where
  pub kept : IsKept s.image
  pub renders : Renders (code_shown s)
  pub apart : AreApart s.lives
