-- A step of the machine, and runs. A step takes what is fetched at an address, and the original number of each link (origin,
-- which also gives the original address of an instruction). In the original machine these are the words of the text, and each
-- number itself. Source: the RISC-V Unprivileged ISA; this project for the causes of traps and their order, for links, for landings.
use Rattle.std.specs.Prelude.{ℕ, ◌%◌, Bool, true, false, not, ◌==◌, ◌&&◌, is_some, List, [], ◌∷◌, map, slice_set, Option, Some, None, if◌then◌else◌}
use Rattle.std.specs.List.{list_any, list_all, range_with_len}
use Rattle.rv_isa.specs.Decoded.{decoded}
use Rattle.rv_isa.specs.declared.instr.Instr.{Instr}
use Rattle.rv_isa.specs.declared.instr.Instr.TheVariants.{Jalr}
use Rattle.image.specs.Picture.{Picture, is_second}
use Rattle.image.specs.Texts.{word_at, covers}
use Rattle.link_tags.specs.declared.value.Tag.{Tag}
use Rattle.link_tags.specs.declared.value.Value.{Value}
use Rattle.link_tags.specs.Values.{is_link, original}
use Rattle.hart.specs.declared.hart.Hart.{Hart}
use Rattle.hart.specs.declared.act.Acted.{Acted}
use Rattle.hart.specs.declared.act.Acted.TheVariants as acted
use Rattle.hart.specs.Harts.{reg, jumped}
use Rattle.hart.specs.Effects.{Effect, effect_of, hart_after, memory_after, answer_of}
use Rattle.guest_mem.specs.Access.{seen}
use Rattle.guest_sys.specs.declared.effect.Reply.{Reply}
use Rattle.guest_sys.specs.declared.effect.Reply.TheVariants as reply
use Rattle.guest_sys.specs.Calls.{Done, asked, all_changed, ranges}
use Rattle.machine.specs.declared.outcome.Outcome.{Outcome}
use Rattle.machine.specs.declared.outcome.Outcome.TheVariants.{Exit, Trap, LinkUse, Landing, OutputFull, HartsFull, Stalled}
use Rattle.machine.specs.Harts.{is_live, has_ended, hart_in, written_by, written_in, woken, waiting_as, is_stalled, replied}
use Rattle.machine.specs.States.{State}

-- the run ends so
abbrev pub ended : Outcome → State → State
ended outcome s = record s { outcome = Some outcome }

-- hart h is this one
abbrev pub with_hart : ℕ → Hart → State → State
with_hart h hart s = record s { harts = slice_set s.harts h hart }

-- the original address of hart h's instruction
abbrev pub place_of : (ℕ → ℕ) → ℕ → State → ℕ
place_of origin h s = origin (hart_in s.harts h).pc

-- ---- jumps
-- a jump whose target a register names
abbrev pub is_indirect : Instr → Bool
is_indirect (Jalr rd rs1 off) = true
is_indirect _ = false

-- what ends the run in place of a jump to an address of the original program: one that is no multiple of 4; where it was a
-- plain number that names it, an address outside the text; by an indirect jump, the second word of a far call
abbrev pub fault_of_jump : Picture → (indirect : Bool) → (pc to : ℕ) → Tag → Option Outcome
fault_of_jump image indirect pc to by =
    if not (to % 4 == 0) then Some (Trap 0 pc to)
    else (if not (is_link by) && not (list_any (covers to) image.texts) then Some (Trap 1 pc to)
    else (if indirect && is_second image.pairs to then Some (Landing to) else None))

-- the jump of hart h is made, unless something ends the run
abbrev pub jumped_unless : Option Outcome → (h to : ℕ) → Option ℕ → State → State
jumped_unless None h to link s = with_hart h (jumped (hart_in s.harts h) to link) s
jumped_unless (Some outcome) h to link s = ended outcome s

-- ---- system calls
-- the values of x10 to x17
abbrev pub arguments_of : List Value → List Value
arguments_of regs = map (reg regs) (range_with_len 10 8)

-- what the call of hart h does
unfoldable pub call_of : (ℕ → ℕ) → ℕ → State → Done
call_of origin h s =
    asked (seen origin s.memory) s.memory.readable s.memory.writable s.system h (hart_in s.harts h).clear (arguments_of (hart_in s.harts h).regs)

-- what ends the run by a reply to hart h. The last hart that ends does, with the lowest 8 bits of x10
abbrev pub end_by : (ℕ → ℕ) → ℕ → Reply → List Hart → Option Outcome
end_by origin h reply.EndHart harts = if list_all (λ k. has_ended k.status) harts then Some (Exit ((reg (hart_in harts h).regs 10).number % 256)) else None
end_by origin h (reply.EndAll code) harts = Some (Exit code)
end_by origin h (reply.LinkUse k) harts = Some (LinkUse 5 (origin (hart_in harts h).pc))
end_by origin h reply.OutputFull harts = Some OutputFull
end_by origin h reply.HartsFull harts = Some HartsFull
end_by origin h _ harts = None

-- the harts after a call of hart h that does d, but for where those wait that it requeued
abbrev pub harts_after : ℕ → Done → List Hart → List Hart
harts_after h d harts = replied h d.reply (woken d.woken (written_in (ranges d.changes) harts))

unfoldable pub called : (ℕ → ℕ) → ℕ → Done → State → State
called origin h d s = record {
  harts = waiting_as d.state.waiting (harts_after h d s.harts);
  memory = all_changed origin s.memory d.changes;
  system = d.state;
  outcome = end_by origin h d.reply (harts_after h d s.harts);
}

-- ---- one step of a live hart h
-- what the machine does by the answer of an instruction (a jump is an indirect one, or not), which has done its own part to hart and memory. No instruction that
-- has an effect answers want of memory
unfoldable pub by_answer : (ℕ → ℕ) → Picture → ℕ → (indirect : Bool) → Acted → State → State
by_answer origin image h indirect acted.Next s = s
by_answer origin image h indirect (acted.Stored block) s = record s { harts = written_by h block s.harts }
by_answer origin image h indirect (acted.Jump to by link) s =
    jumped_unless (fault_of_jump image indirect (place_of origin h s) (original origin (record { number = to; tag = by })) by) h to link s
by_answer origin image h indirect acted.Call s = called origin h (call_of origin h s) s
by_answer origin image h indirect (acted.Trap cause value) s = ended (Trap cause (place_of origin h s) value) s
by_answer origin image h indirect (acted.LinkUse rule) s = ended (LinkUse rule (place_of origin h s)) s
by_answer origin image h indirect acted.NoMemory s = s

-- an effect on the hart itself and on memory
abbrev pub affected : (ℕ → ℕ) → ℕ → Effect → State → State
affected origin h e s = record s { harts = slice_set s.harts h (hart_after e (hart_in s.harts h)); memory = memory_after origin e s.memory }

unfoldable pub after_effect : (ℕ → ℕ) → Picture → ℕ → (indirect : Bool) → Effect → State → State
after_effect origin image h indirect e s = by_answer origin image h indirect (answer_of e) (affected origin h e s)

-- a word that reads as an instruction, or as none
abbrev pub on_instr : (ℕ → ℕ) → Picture → (h word : ℕ) → Option Instr → State → State
on_instr origin image h word None s = ended (Trap 2 (place_of origin h s) word) s
on_instr origin image h word (Some i) s = after_effect origin image h (is_indirect i) (effect_of origin s.memory (hart_in s.harts h) i) s

-- what was fetched: a word, or none
unfoldable pub on_fetched : (ℕ → ℕ) → Picture → ℕ → Option ℕ → State → State
on_fetched origin image h None s = ended (Trap 1 (place_of origin h s) (place_of origin h s)) s
on_fetched origin image h (Some word) s = on_instr origin image h word (decoded word) s

-- a run that hasn't ended stalls where no hart can go on
unfoldable pub settled : State → State
settled s = if not (is_some s.outcome) && is_stalled s.harts then ended Stalled s else s

-- ---- one step
-- hart h can make a step
abbrev pub can_step : ℕ → State → Bool
can_step h s = not (is_some s.outcome) && is_live (hart_in s.harts h).status

-- a run that has ended stays as it is, and so does one by a hart that waits, has ended or isn't made
unfoldable pub step_with : (fetch : ℕ → Option ℕ) → (origin : ℕ → ℕ) → Picture → ℕ → State → State
step_with fetch origin image h s =
    if can_step h s then settled (on_fetched origin image h (fetch (hart_in s.harts h).pc) s) else s

-- a step of the original machine
unfoldable pub original_step : Picture → ℕ → State → State
original_step image h s = step_with (word_at image.texts) (λ a. a) image h s

-- a step of each hart of a list in turn
abbrev pub original_run : Picture → List ℕ → State → State
original_run image [] s = s
original_run image (h ∷ hs) s = original_run image hs (original_step image h s)
