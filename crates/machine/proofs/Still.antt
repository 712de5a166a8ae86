-- An instruction leaves its hart live, so that nothing but a call can stall a run.
use Rattle.std.proofs.Common.{◌≡◌, ℕ, zero, suc, Bool, true, false, List, [], ◌∷◌, set, map, Option, Some, None, ap, refl, sym, ◌∙◌}
use Rattle.std.specs.Prelude.{is_some, not, ◌&&◌, ◌==◌}
use Rattle.rv_isa.specs.Decoded.{decoded}
use Rattle.rv_isa.specs.declared.instr.Instr.{Instr}
use Rattle.image.specs.Picture.{Picture}
use Rattle.link_tags.specs.Values.{original}
use Rattle.hart.specs.declared.hart.Hart.{Hart}
use Rattle.hart.specs.declared.act.Acted.{Acted}
use Rattle.hart.specs.declared.act.Acted.TheVariants as acted
use Rattle.hart.specs.Harts.{jumped}
use Rattle.hart.specs.Effects.{Effect, next, write, jump, call, trap, link_use, hart_after, effect_of, answer_of}
use Rattle.machine.specs.declared.outcome.Outcome.{Outcome}
use Rattle.machine.specs.Harts.{is_live, hart_in, written_by, unreserved}
use Rattle.machine.specs.States.{State}
use Rattle.machine.specs.Steps.{settled, by_answer, jumped_unless, fault_of_jump, place_of, affected, after_effect, on_fetched, is_indirect, ended, with_hart, can_step}
use Rattle.machine.specs.Sharing.{answered_by}
use Rattle.machine.proofs.HartLists.{not_stalled}

and_false : (b : Bool) → (b && false) ≡ false
and_false true = refl
and_false false = refl

-- hart h is live
abbrev pub IsLive : ℕ → List Hart → Type 0
IsLive h hs = is_live (hart_in hs h).status ≡ true

pub settled_live : (h : ℕ) (s : State) → IsLive h s.harts → settled s ≡ s
unfolding settled
settled_live h s live = rw (not_stalled s.harts h live, and_false (not (is_some s.outcome))) refl

settled_ended : (outcome : Outcome) (s : State) → settled (ended outcome s) ≡ ended outcome s
unfolding settled
settled_ended outcome s = refl

-- a live hart that is changed, but for its status
pub set_live : (hs : List Hart) (h : ℕ) (k : Hart) → k.status ≡ (hart_in hs h).status → IsLive h hs → IsLive h (set hs h k)
set_live [] h k same live = live
set_live (x ∷ xs) zero k same live = ap is_live same ∙ live
set_live (x ∷ xs) (suc h) k same live = set_live xs h k same live

pub keeps_status : (e : Effect) (h : Hart) → (hart_after e h).status ≡ h.status
unfolding hart_after
keeps_status (next rd value held) h = refl
keeps_status (write at width v rd value held) h = refl
keeps_status (jump to by link) h = refl
keeps_status call h = refl
keeps_status (trap cause value) h = refl
keeps_status (link_use rule) h = refl

map_live : (among : ℕ → Bool) (hs : List Hart) (h : ℕ) → IsLive h hs → IsLive h (map (unreserved among) hs)
map_live among [] h live = live
map_live among (x ∷ xs) zero live = live
map_live among (x ∷ xs) (suc h) live = map_live among xs h live

pub written_live : (h block : ℕ) (hs : List Hart) → IsLive h hs → IsLive h (written_by h block hs)
unfolding written_by
written_live h block hs live = set_live (map (unreserved (λ b. b == block)) hs) h (hart_in hs h) (kept hs h) (map_live (λ b. b == block) hs h live)
  where
    kept : (xs : List Hart) (k : ℕ) → (hart_in xs k).status ≡ (hart_in (map (unreserved (λ b. b == block)) xs) k).status
    kept [] k = refl
    kept (x ∷ xs) zero = refl
    kept (x ∷ xs) (suc k) = kept xs k

pub same_status : (h : Hart) (to : ℕ) (rd : Option ℕ) → (jumped h to rd).status ≡ h.status
same_status h to None = refl
same_status h to (Some rd) = refl

jump_settled : (fault : Option Outcome) (h to : ℕ) (rd : Option ℕ) (s : State) → IsLive h s.harts → jumped_unless fault h to rd s ≡ settled (jumped_unless fault h to rd s)
unfolding settled
jump_settled None h to rd s live = sym (settled_live h (with_hart h (jumped (hart_in s.harts h) to rd) s) (set_live s.harts h (jumped (hart_in s.harts h) to rd) (same_status (hart_in s.harts h) to rd) live))
jump_settled (Some outcome) h to rd s live = refl

answer_settled : (origin : ℕ → ℕ) (image : Picture) (h : ℕ) (indirect : Bool) (answer : Acted) (s : State) → IsLive h s.harts → answered_by origin image h indirect answer s ≡ settled (by_answer origin image h indirect answer s)
unfolding answered_by by_answer
answer_settled origin image h indirect acted.Next s live = sym (settled_live h s live)
answer_settled origin image h indirect (acted.Stored block) s live = sym (settled_live h (record s { harts = written_by h block s.harts }) (written_live h block s.harts live))
answer_settled origin image h indirect (acted.Jump to by link) s live =
    jump_settled (fault_of_jump image indirect (place_of origin h s) (original origin (record { number = to; tag = by })) by) h to link s live
answer_settled origin image h indirect acted.Call s live = refl
answer_settled origin image h indirect (acted.Trap cause value) s live = sym (settled_ended _ s)
answer_settled origin image h indirect (acted.LinkUse rule) s live = sym (settled_ended _ s)
answer_settled origin image h indirect acted.NoMemory s live = sym (settled_live h s live)

pub can_live : (a b : Bool) → (a && b) ≡ true → b ≡ true
can_live true b e = e
can_live false b e = absurd cc

-- so an instruction of a live hart that isn't a call leaves nothing to settle
pub effect_settled : (origin : ℕ → ℕ) (image : Picture) (h : ℕ) (indirect : Bool) (e : Effect) (s : State) → can_step h s ≡ true → answered_by origin image h indirect (answer_of e) (affected origin h e s) ≡ settled (after_effect origin image h indirect e s)
unfolding after_effect
effect_settled origin image h indirect e s can =
    let live = can_live (not (is_some s.outcome)) (is_live (hart_in s.harts h).status) can in
    answer_settled origin image h indirect (answer_of e) (affected origin h e s) (set_live s.harts h (hart_after e (hart_in s.harts h)) (keeps_status e (hart_in s.harts h)) live)

-- the same from what was fetched
pub instr_settled : (origin : ℕ → ℕ) (image : Picture) (h : ℕ) (fetched : Option ℕ) (word : ℕ) (i : Instr) (s : State) → can_step h s ≡ true → fetched ≡ Some word → decoded word ≡ Some i
    → answered_by origin image h (is_indirect i) (answer_of (effect_of origin s.memory (hart_in s.harts h) i)) (affected origin h (effect_of origin s.memory (hart_in s.harts h) i) s) ≡ settled (on_fetched origin image h fetched s)
unfolding on_fetched
instr_settled origin image h fetched word i s can is reads = rw (is, reads) (effect_settled origin image h (is_indirect i) (effect_of origin s.memory (hart_in s.harts h) i) s can)
