-- The harts of a machine as a list, by their numbers, and what becomes of several of them in one step.
-- Source: the RISC-V Unprivileged ISA, "A", for reservations; the manual pages of Linux for futex and clone; this project for
-- what takes a reservation away, and for what a new hart has of the one that made it.
use Rattle.std.specs.Prelude.{ℕ, ◌+◌, ◌==◌, ◌&&◌, nat_lt, Bool, true, false, not, List, [], ◌∷◌, ◌++◌, map, replicate, slice_index_or, slice_set, Option, Some, None, if◌then◌else◌}
use Rattle.std.specs.List.{list_any, list_all}
use Rattle.oc_base.specs.declared.range.Range.{Range}
use Rattle.link_tags.specs.declared.value.Value.{Value}
use Rattle.link_tags.specs.Values.{plain}
use Rattle.hart.specs.declared.hart.Hart.{Hart}
use Rattle.hart.specs.declared.hart.Status.{Status}
use Rattle.hart.specs.declared.hart.Status.TheVariants.{Live, Waiting, Ended}
use Rattle.hart.specs.Harts.{with_reg, after}
use Rattle.guest_sys.specs.declared.state.Waiter.{Waiter}
use Rattle.guest_sys.specs.declared.effect.Reply.{Reply}
use Rattle.guest_sys.specs.declared.effect.Reply.TheVariants as reply

abbrev pub is_live : Status → Bool
is_live Live = true
is_live (Waiting at) = false
is_live Ended = false

abbrev pub has_ended : Status → Bool
has_ended Live = false
has_ended (Waiting at) = false
has_ended Ended = true

-- hart h; one that isn't made reads as one that has ended
abbrev pub no_hart : Hart
no_hart = record { regs = replicate 32 (plain 0); pc = 0; reservation = None; status = Ended; clear = 0 }

abbrev pub hart_in : List Hart → ℕ → Hart
hart_in harts h = slice_index_or harts h no_hart

-- ---- reservations
-- a hart loses its reservation where the block that it reserved is among these
abbrev pub lost : (ℕ → Bool) → Option ℕ → Option ℕ
lost among None = None
lost among (Some block) = if among block then None else Some block

abbrev pub unreserved : (ℕ → Bool) → Hart → Hart
unreserved among h = record h { reservation = lost among h.reservation }

-- hart h wrote to a block: every other hart loses its reservation of it
unfoldable pub written_by : ℕ → ℕ → List Hart → List Hart
written_by h block harts = slice_set (map (unreserved (λ b. b == block)) harts) h (hart_in harts h)

-- the 8 bytes of a block have one of some ranges
abbrev pub is_in : List Range → ℕ → Bool
is_in ranges block = list_any (λ r. nat_lt r.from (block + 8) && nat_lt block r.to) ranges

-- these ranges were written by the system: every hart loses its reservation there
unfoldable pub written_in : List Range → List Hart → List Hart
written_in ranges harts = map (unreserved (is_in ranges)) harts

-- ---- waiting
-- a hart that is woken goes on, and is answered 0
abbrev pub awake : Hart → Hart
awake h = record h { regs = with_reg h.regs 10 (plain 0); status = Live }

-- these harts are woken
abbrev pub woken : List ℕ → List Hart → List Hart
woken [] harts = harts
woken (k ∷ ks) harts = woken ks (slice_set harts k (awake (hart_in harts k)))

-- each hart of the system's list waits where the list has it: one that was requeued, at its new address
abbrev pub waiting_at : ℕ → Hart → Hart
waiting_at at h = record h { status = Waiting at }

abbrev pub waiting_as : List Waiter → List Hart → List Hart
waiting_as [] harts = harts
waiting_as (w ∷ ws) harts = waiting_as ws (slice_set harts w.hart (waiting_at w.at (hart_in harts w.hart)))

-- no hart is live, and not all have ended
abbrev pub is_stalled : List Hart → Bool
is_stalled harts = not (list_any (λ h. is_live h.status) harts) && not (list_all (λ h. has_ended h.status) harts)

-- ---- what a system call's reply makes of the harts, where hart h called
-- the answer goes to x10, and the next word comes
abbrev pub answered : ℕ → Hart → Hart
answered value h = record h { regs = with_reg h.regs 10 (plain value); pc = after h.pc }

-- it goes on, if at all, with the next word
abbrev pub stopped : Status → Hart → Hart
stopped status h = record h { pc = after h.pc; status = status }

-- the thread pointer, x4, where one is given
abbrev pub with_thread : Option ℕ → List Value → List Value
with_thread None regs = regs
with_thread (Some at) regs = with_reg regs 4 (plain at)

-- a new hart goes on as the one that made it, answered 0 and with a stack of its own
abbrev pub child_of : Hart → (stack : ℕ) → (thread : Option ℕ) → (clear : ℕ) → Hart
child_of h stack thread clear = record {
  regs = with_thread thread (with_reg (with_reg h.regs 10 (plain 0)) 2 (plain stack));
  pc = after h.pc;
  reservation = None;
  status = Live;
  clear = clear;
}

unfoldable pub replied : ℕ → Reply → List Hart → List Hart
replied h (reply.Answer value) harts = slice_set harts h (answered value (hart_in harts h))
replied h (reply.Wait at) harts = slice_set harts h (stopped (Waiting at) (hart_in harts h))
replied h reply.EndHart harts = slice_set harts h (stopped Ended (hart_in harts h))
replied h (reply.Clone stack thread clear tid) harts =
    slice_set harts h (answered tid (hart_in harts h)) ++ child_of (hart_in harts h) stack thread clear ∷ []
replied h (reply.SetClear clear) harts = slice_set harts h (answered (h + 1) (record (hart_in harts h) { clear = clear }))
replied h _ harts = harts
