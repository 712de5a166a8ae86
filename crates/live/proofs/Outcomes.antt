-- No step of the original machine ends a run for want of events, or at a limit.
use Rattle.std.proofs.Common.{ℕ, Bool, true, false, List, [], ◌∷◌, Option, Some, None}
use Rattle.std.specs.Prelude.{not, is_some, ◌%◌, ◌==◌, ◌&&◌, if◌then◌else◌}
use Rattle.std.specs.List.{list_any, list_all}
use Rattle.rv_isa.specs.Decoded.{decoded}
use Rattle.rv_isa.specs.declared.instr.Instr.{Instr}
use Rattle.image.specs.Picture.{Picture, is_second}
use Rattle.image.specs.Texts.{word_at, covers}
use Rattle.link_tags.specs.declared.value.Tag.{Tag}
use Rattle.link_tags.specs.Values.{is_link, original}
use Rattle.hart.specs.declared.hart.Hart.{Hart}
use Rattle.hart.specs.declared.act.Acted.{Acted}
use Rattle.hart.specs.declared.act.Acted.TheVariants as acted
use Rattle.hart.specs.Effects.{effect_of, answer_of}
use Rattle.guest_sys.specs.declared.effect.Reply.{Reply}
use Rattle.guest_sys.specs.declared.effect.Reply.TheVariants as reply
use Rattle.machine.specs.declared.outcome.Outcome.{Outcome}
use Rattle.machine.specs.declared.outcome.Outcome.TheVariants.{Trap, Landing, Stalled, Unfinished, Limit}
use Rattle.machine.specs.Harts.{has_ended, is_stalled, hart_in}
use Rattle.machine.specs.States.{State}
use Rattle.machine.specs.Steps.{ended, jumped_unless, fault_of_jump, place_of, end_by, harts_after, call_of, called, by_answer, affected, after_effect, is_indirect, on_instr, on_fetched, settled, can_step, step_with, original_step, original_run}

-- an outcome that a machine comes to by itself, if there is one
abbrev pub IsOwn : Option Outcome → Type 0
IsOwn None = Unit {0}
IsOwn (Some Unfinished) = ⊥
IsOwn (Some (Limit most)) = ⊥
IsOwn (Some _) = Unit {0}

own_if : (b : Bool) (x y : Option Outcome) → IsOwn x → IsOwn y → IsOwn (if b then x else y)
own_if true x y first second = first
own_if false x y first second = second

own_fault : (image : Picture) (indirect : Bool) (pc to : ℕ) (by : Tag) → IsOwn (fault_of_jump image indirect pc to by)
own_fault image indirect pc to by =
    own_if (not (to % 4 == 0)) (Some (Trap 0 pc to)) _ tt
    (own_if (not (is_link by) && not (list_any (covers to) image.texts)) (Some (Trap 1 pc to)) _ tt
    (own_if (indirect && is_second image.pairs to) (Some (Landing to)) None tt tt))

own_jump : (fault : Option Outcome) (h to : ℕ) (link : Option ℕ) (s : State) → IsOwn fault → IsOwn s.outcome → IsOwn (jumped_unless fault h to link s).outcome
own_jump None h to link s own at = at
own_jump (Some outcome) h to link s own at = own

own_end : (origin : ℕ → ℕ) (h : ℕ) (r : Reply) (harts : List Hart) → IsOwn (end_by origin h r harts)
own_end origin h reply.EndHart harts = own_if (list_all (λ k. has_ended k.status) harts) _ None tt tt
own_end origin h (reply.EndAll code) harts = tt
own_end origin h (reply.LinkUse k) harts = tt
own_end origin h reply.OutputFull harts = tt
own_end origin h reply.HartsFull harts = tt
own_end origin h _ harts = tt

own_answer : (origin : ℕ → ℕ) (image : Picture) (h : ℕ) (indirect : Bool) (answer : Acted) (s : State) → IsOwn s.outcome → IsOwn (by_answer origin image h indirect answer s).outcome
unfolding by_answer called
own_answer origin image h indirect acted.Next s at = at
own_answer origin image h indirect (acted.Stored block) s at = at
own_answer origin image h indirect (acted.Jump to by link) s at =
    own_jump _ h to link s (own_fault image indirect (place_of origin h s) (original origin (record { number = to; tag = by })) by) at
own_answer origin image h indirect acted.Call s at = own_end origin h (call_of origin h s).reply (harts_after h (call_of origin h s) s.harts)
own_answer origin image h indirect (acted.Trap cause value) s at = tt
own_answer origin image h indirect (acted.LinkUse rule) s at = tt
own_answer origin image h indirect acted.NoMemory s at = at

own_instr : (origin : ℕ → ℕ) (image : Picture) (h word : ℕ) (i : Option Instr) (s : State) → IsOwn s.outcome → IsOwn (on_instr origin image h word i s).outcome
unfolding after_effect
own_instr origin image h word None s at = tt
own_instr origin image h word (Some i) s at =
    own_answer origin image h (is_indirect i) (answer_of (effect_of origin s.memory (hart_in s.harts h) i)) (affected origin h (effect_of origin s.memory (hart_in s.harts h) i) s) at

own_fetched : (origin : ℕ → ℕ) (image : Picture) (h : ℕ) (word : Option ℕ) (s : State) → IsOwn s.outcome → IsOwn (on_fetched origin image h word s).outcome
unfolding on_fetched
own_fetched origin image h None s at = tt
own_fetched origin image h (Some word) s at = own_instr origin image h word (decoded word) s at

own_state : (b : Bool) (s u : State) → IsOwn s.outcome → IsOwn u.outcome → IsOwn (if b then s else u).outcome
own_state true s u first second = first
own_state false s u first second = second

own_settled : (s : State) → IsOwn s.outcome → IsOwn (settled s).outcome
unfolding settled
own_settled s at = own_state (not (is_some s.outcome) && is_stalled s.harts) (ended Stalled s) s tt at

own_step : (image : Picture) (h : ℕ) (s : State) → IsOwn s.outcome → IsOwn (original_step image h s).outcome
unfolding original_step step_with
own_step image h s at =
    own_state (can_step h s) (settled (on_fetched (λ a. a) image h (word_at image.texts (hart_in s.harts h).pc) s)) s
    (own_settled _ (own_fetched (λ a. a) image h (word_at image.texts (hart_in s.harts h).pc) s at)) at

pub own_run : (image : Picture) (hs : List ℕ) (s : State) → IsOwn s.outcome → IsOwn (original_run image hs s).outcome
own_run image [] s at = at
own_run image (h ∷ hs) s at = own_run image hs (original_step image h s) (own_step image h s at)
