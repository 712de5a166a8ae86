-- What the calls on a list of harts keep, beside what `Harts` says.
use Rattle.std.specs.Prelude.{◌≡◌, ℕ, ◌<◌, Bool, true, false, List, slice_set, None}
use Rattle.std.specs.List.{All}
use Rattle.rv_isa.specs.declared.instr.Instr.{Instr}
use Rattle.rv_isa.specs.declared.instr.Instr.TheVariants.{Lr}
use Rattle.hart.specs.declared.hart.Hart.{Hart}
use Rattle.hart.specs.declared.act.Acted.{Acted}
use Rattle.hart.specs.declared.act.Acted.TheVariants as acted
use Rattle.hart.specs.Effects.{Effect, IsWrite, hart_after, memory_after, answer_of}
use Rattle.guest_mem.specs.Memory.{Memory}
use Rattle.guest_sys.specs.declared.effect.Reply.{Reply}
use Rattle.guest_sys.specs.declared.effect.Reply.TheVariants as reply
use Rattle.guest_sys.specs.Limits.{hart_limit}
use Rattle.image.specs.Picture.{Picture}
use Rattle.machine.specs.Harts.{hart_in}
use Rattle.machine.specs.States.{State}
use Rattle.machine.specs.Steps.{call_of, called, by_answer, settled}

-- no hart holds a reservation
abbrev pub HoldsNone : List Hart → Type 0
HoldsNone harts = All (λ h. h.reservation ≡ None) harts

-- the instruction may make a reservation
abbrev pub reserves : Instr → Bool
reserves (Lr wide order rd rs1) = true
reserves _ = false

-- there is room for the hart that a reply makes, if it makes one, beside so many
abbrev pub HasRoom : Reply → ℕ → Type 0
HasRoom (reply.Clone stack thread clear tid) made = made < hart_limit
HasRoom _ made = Unit {0}

-- what stands after an effect e on hart h, by the answer: the lists and m were before, and those with ' are now
abbrev pub ActsIn : (ℕ → ℕ) → Effect → ℕ → List Hart → List Hart → Memory → Memory → Acted → Type 0
ActsIn origin e h harts harts' m m' acted.NoMemory = IsWrite e × (harts' ≡ harts) × (m' ≡ m)
ActsIn origin e h harts harts' m m' answer =
    (answer ≡ answer_of e) × (harts' ≡ slice_set harts h (hart_after e (hart_in harts h))) × (m' ≡ memory_after origin e m)

-- what the machine does by an answer, where a stall is looked for after a call alone
unfoldable pub answered_by : (ℕ → ℕ) → Picture → ℕ → (indirect : Bool) → Acted → State → State
answered_by origin image h indirect acted.Call s = settled (called origin h (call_of origin h s) s)
answered_by origin image h indirect answer s = by_answer origin image h indirect answer s
