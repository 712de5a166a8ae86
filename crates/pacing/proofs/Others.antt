-- What a step of a hart leaves of the others: none of them that is live waits or ends, and those that were made stay.
use Rattle.std.proofs.Common.{◌≡◌, ◌≢◌, ℕ, zero, suc, ◌≤◌, Bool, true, false, List, [], ◌∷◌, ◌++◌, length, map, refl, sym, ap, ◌∙◌, subst, arith}
use Rattle.std.specs.Prelude.{Option, Some, None, ◌==◌, ◌&&◌, not, is_some, All, slice_set, if◌then◌else◌}
use Rattle.std.proofs.lemmas.List.{length-set, length-map, length-append}
use Rattle.std.proofs.lemmas.List.Elements.{All-nil, All-cons, All-head, All-tail}
use Rattle.rv_isa.specs.Decoded.{decoded}
use Rattle.rv_isa.specs.declared.instr.Instr.{Instr}
use Rattle.image.specs.Picture.{Picture}
use Rattle.image.specs.Texts.{word_at}
use Rattle.link_tags.specs.Values.{original}
use Rattle.hart.specs.declared.hart.Hart.{Hart}
use Rattle.hart.specs.declared.act.Acted.{Acted}
use Rattle.hart.specs.declared.act.Acted.TheVariants as acted
use Rattle.hart.specs.Harts.{jumped}
use Rattle.hart.specs.Effects.{Effect, effect_of, hart_after, answer_of}
use Rattle.guest_sys.specs.declared.state.Waiter.{Waiter}
use Rattle.guest_sys.specs.declared.effect.Reply.{Reply}
use Rattle.guest_sys.specs.declared.effect.Reply.TheVariants as reply
use Rattle.guest_sys.specs.Calls.{Done, ranges}
use Rattle.machine.specs.declared.outcome.Outcome.{Outcome}
use Rattle.machine.specs.declared.outcome.Outcome.TheVariants.{Stalled}
use Rattle.machine.specs.Harts.{is_live, hart_in, unreserved, is_in, written_by, written_in, awake, woken, waiting_at, waiting_as, is_stalled, answered, child_of, replied}
use Rattle.machine.specs.States.{State}
use Rattle.machine.specs.Start.{start_of}
use Rattle.machine.specs.Steps.{ended, with_hart, place_of, is_indirect, fault_of_jump, jumped_unless, call_of, harts_after, called, by_answer, affected, after_effect, on_instr, on_fetched, settled, can_step, step_with, original_step}
use Rattle.machine.proofs.Still.{keeps_status, same_status}
use Rattle.pacing.specs.Waiters.{ListsNoLive}
use Rattle.pacing.proofs.Listing.{IsOff, call_off}

abbrev pub IsLiveIn : List Hart → ℕ → Type 0
IsLiveIn hs k = is_live (hart_in hs k).status ≡ true

abbrev IsIdleIn : List Hart → ℕ → Type 0
IsIdleIn hs k = is_live (hart_in hs k).status ≡ false

-- ---- changes that leave each status
abbrev SameStatus : List Hart → List Hart → Type 0
SameStatus before now = (k : ℕ) → (hart_in now k).status ≡ (hart_in before k).status

status_set : (hs : List Hart) (h : ℕ) (x : Hart) → x.status ≡ (hart_in hs h).status → SameStatus hs (slice_set hs h x)
status_set [] h x same k = refl
status_set (y ∷ ys) zero x same zero = same
status_set (y ∷ ys) zero x same (suc k) = refl
status_set (y ∷ ys) (suc h) x same zero = refl
status_set (y ∷ ys) (suc h) x same (suc k) = status_set ys h x same k

status_map : (among : ℕ → Bool) (hs : List Hart) → SameStatus hs (map (unreserved among) hs)
status_map among [] k = refl
status_map among (y ∷ ys) zero = refl
status_map among (y ∷ ys) (suc k) = status_map among ys k

status_written : (h block : ℕ) (hs : List Hart) → SameStatus hs (written_by h block hs)
unfolding written_by
status_written h block hs k =
    let among = λ (b : ℕ). b == block in
    status_set (map (unreserved among) hs) h (hart_in hs h) (sym (status_map among hs h)) k ∙ status_map among hs k

record IsAlike (s t : State) : Type 0 where
  system : t.system ≡ s.system
  status : SameStatus s.harts t.harts
  made : length t.harts ≡ length s.harts

-- a step of hart h from s to t
pub record Leaves (h : ℕ) (s t : State) : Type 0 where
  pub made : length s.harts ≤ length t.harts
  pub live : (k : ℕ) → h ≢ k → IsOff k s.system.waiting → IsLiveIn s.harts k → IsLiveIn t.harts k
  pub listed : ListsNoLive s → ListsNoLive t

alike_listed : (s t : State) → IsAlike s t → ListsNoLive s → ListsNoLive t
alike_listed s t same none =
    subst (λ ws. All (λ (w : Waiter). IsIdleIn t.harts w.hart) ws) (ap (λ y. y.waiting) (sym same.system))
    (λ i d within. ap is_live (same.status _) ∙ none i d within)

alike_leaves : (h : ℕ) (s t : State) → IsAlike s t → Leaves h s t
alike_leaves h s t same = record {
  made = (let e = same.made in omega (arith, e));
  live = λ k apart off live. ap is_live (same.status k) ∙ live;
  listed = alike_listed s t same;
}

after_alike : (h : ℕ) (s u t : State) → IsAlike s u → Leaves h u t → Leaves h s t
after_alike h s u t same rest = record {
  made = (let e = same.made in let r = rest.made in omega (arith, e, r));
  live = λ k apart off live. rest.live k apart (subst (λ y. IsOff k y.waiting) (sym same.system) off) (ap is_live (same.status k) ∙ live);
  listed = λ none. rest.listed (alike_listed s u same none);
}

-- ---- a call
live_set : (hs : List Hart) (h k : ℕ) (x : Hart) → h ≢ k → IsLiveIn hs k → IsLiveIn (slice_set hs h x) k
live_set [] h k x apart live = live
live_set (y ∷ ys) zero zero x apart live = absurd (apart refl)
live_set (y ∷ ys) zero (suc k) x apart live = live
live_set (y ∷ ys) (suc h) zero x apart live = live
live_set (y ∷ ys) (suc h) (suc k) x apart live = live_set ys h k x (λ e. apart (ap suc e)) live

live_push : (hs : List Hart) (x : Hart) (k : ℕ) → IsLiveIn hs k → IsLiveIn (hs ++ x ∷ []) k
live_push [] x k live = absurd (cc)
live_push (y ∷ ys) x zero live = live
live_push (y ∷ ys) x (suc k) live = live_push ys x k live

-- a hart that is woken is live
live_awake : (hs : List Hart) (h k : ℕ) (x : Hart) → is_live x.status ≡ true → IsLiveIn hs k → IsLiveIn (slice_set hs h x) k
live_awake [] h k x lives live = live
live_awake (y ∷ ys) zero zero x lives live = lives
live_awake (y ∷ ys) zero (suc k) x lives live = live
live_awake (y ∷ ys) (suc h) zero x lives live = live
live_awake (y ∷ ys) (suc h) (suc k) x lives live = live_awake ys h k x lives live

live_woken : (js : List ℕ) (hs : List Hart) (k : ℕ) → IsLiveIn hs k → IsLiveIn (woken js hs) k
live_woken [] hs k live = live
live_woken (j ∷ js) hs k live = live_woken js (slice_set hs j (awake (hart_in hs j))) k (live_awake hs j k (awake (hart_in hs j)) refl live)

live_replied : (h k : ℕ) (r : Reply) (hs : List Hart) → h ≢ k → IsLiveIn hs k → IsLiveIn (replied h r hs) k
unfolding replied
live_replied h k (reply.Answer value) hs apart live = live_set hs h k _ apart live
live_replied h k (reply.Wait at) hs apart live = live_set hs h k _ apart live
live_replied h k reply.EndHart hs apart live = live_set hs h k _ apart live
live_replied h k (reply.Clone stack thread clear tid) hs apart live =
    live_push (slice_set hs h (answered tid (hart_in hs h))) (child_of (hart_in hs h) stack thread clear) k (live_set hs h k _ apart live)
live_replied h k (reply.SetClear clear) hs apart live = live_set hs h k _ apart live
live_replied h k r hs apart live = live

live_waiting : (ws : List Waiter) (hs : List Hart) (k : ℕ) → IsOff k ws → IsLiveIn hs k → IsLiveIn (waiting_as ws hs) k
live_waiting [] hs k off live = live
live_waiting (w ∷ ws) hs k off live =
    live_waiting ws (slice_set hs w.hart (waiting_at w.at (hart_in hs w.hart))) k (All-tail (λ (v : Waiter). v.hart ≢ k) w ws off)
    (live_set hs w.hart k _ (All-head (λ (v : Waiter). v.hart ≢ k) w ws off) live)

idle_set : (hs : List Hart) (h k : ℕ) (x : Hart) → is_live x.status ≡ false → IsIdleIn hs k → IsIdleIn (slice_set hs h x) k
idle_set [] h k x rests idle = idle
idle_set (y ∷ ys) zero zero x rests idle = rests
idle_set (y ∷ ys) zero (suc k) x rests idle = idle
idle_set (y ∷ ys) (suc h) zero x rests idle = idle
idle_set (y ∷ ys) (suc h) (suc k) x rests idle = idle_set ys h k x rests idle

idle_there : (hs : List Hart) (h : ℕ) (x : Hart) → is_live x.status ≡ false → IsIdleIn (slice_set hs h x) h
idle_there [] h x rests = refl
idle_there (y ∷ ys) zero x rests = rests
idle_there (y ∷ ys) (suc h) x rests = idle_there ys h x rests

idle_waiting : (ws : List Waiter) (hs : List Hart) (k : ℕ) → IsIdleIn hs k → IsIdleIn (waiting_as ws hs) k
idle_waiting [] hs k idle = idle
idle_waiting (w ∷ ws) hs k idle =
    idle_waiting ws (slice_set hs w.hart (waiting_at w.at (hart_in hs w.hart))) k (idle_set hs w.hart k (waiting_at w.at (hart_in hs w.hart)) refl idle)

all_wait : (ws : List Waiter) (hs : List Hart) → All (λ (w : Waiter). IsIdleIn (waiting_as ws hs) w.hart) ws
all_wait [] hs = All-nil (λ (w : Waiter). IsIdleIn hs w.hart)
all_wait (w ∷ ws) hs =
    let x = waiting_at w.at (hart_in hs w.hart) in
    let next = slice_set hs w.hart x in
    All-cons (λ (v : Waiter). IsIdleIn (waiting_as ws next) v.hart) w ws (idle_waiting ws next w.hart (idle_there hs w.hart x refl)) (all_wait ws next)

made_woken : (js : List ℕ) (hs : List Hart) → length (woken js hs) ≡ length hs
made_woken [] hs = refl
made_woken (j ∷ js) hs = made_woken js (slice_set hs j (awake (hart_in hs j))) ∙ length-set hs j (awake (hart_in hs j))

made_waiting : (ws : List Waiter) (hs : List Hart) → length (waiting_as ws hs) ≡ length hs
made_waiting [] hs = refl
made_waiting (w ∷ ws) hs =
    made_waiting ws (slice_set hs w.hart (waiting_at w.at (hart_in hs w.hart))) ∙ length-set hs w.hart (waiting_at w.at (hart_in hs w.hart))

made_replied : (h : ℕ) (r : Reply) (hs : List Hart) → length hs ≤ length (replied h r hs)
unfolding replied
made_replied h (reply.Answer value) hs = let e = length-set hs h (answered value (hart_in hs h)) in omega (arith, e)
made_replied h (reply.Wait at) hs = omega (arith, length-set {A = Hart})
made_replied h reply.EndHart hs = omega (arith, length-set {A = Hart})
made_replied h (reply.Clone stack thread clear tid) hs = omega (arith, length-append {A = Hart}, length-set {A = Hart})
made_replied h (reply.SetClear clear) hs = omega (arith, length-set {A = Hart})
made_replied h r hs = omega arith

module _ (origin : ℕ → ℕ) (h : ℕ) (s : State) where
  made_after : (d : Done) → length s.harts ≤ length (harts_after h d s.harts)
  unfolding written_in
  made_after d =
      let before = written_in (ranges d.changes) s.harts in
      let e : length before ≡ length s.harts = length-map s.harts (unreserved (is_in (ranges d.changes))) in
      let f = made_woken d.woken before in
      let g = made_replied h d.reply (woken d.woken before) in
      omega (arith, e, f, g)

  live_after : (d : Done) (k : ℕ) → h ≢ k → IsLiveIn s.harts k → IsLiveIn (harts_after h d s.harts) k
  unfolding written_in
  live_after d k apart live =
      let before = written_in (ranges d.changes) s.harts in
      live_replied h k d.reply (woken d.woken before) apart
      (live_woken d.woken before k (ap is_live (status_map (is_in (ranges d.changes)) s.harts k) ∙ live))

  call_leaves : Leaves h s (called origin h (call_of origin h s) s)
  unfolding called
  call_leaves =
      let d = call_of origin h s in
      record {
        made = (let e = made_waiting d.state.waiting (harts_after h d s.harts) in let f = made_after d in omega (arith, e, f));
        live = λ k apart off live.
            live_waiting d.state.waiting (harts_after h d s.harts) k (call_off origin h k s apart off) (live_after d k apart live);
        listed = λ none. all_wait d.state.waiting (harts_after h d s.harts);
      }

-- ---- a step
hart_alike : (h : ℕ) (x : Hart) (s : State) → x.status ≡ (hart_in s.harts h).status → IsAlike s (with_hart h x s)
hart_alike h x s same = record { system = refl; status = status_set s.harts h x same; made = length-set s.harts h x }

itself : (s : State) → IsAlike s s
itself s = record { system = refl; status = λ k. refl; made = refl }

ended_alike : (outcome : Outcome) (s : State) → IsAlike s (ended outcome s)
ended_alike outcome s = record { system = refl; status = λ k. refl; made = refl }

jump_alike : (fault : Option Outcome) (h to : ℕ) (link : Option ℕ) (s : State) → IsAlike s (jumped_unless fault h to link s)
jump_alike None h to link s = hart_alike h (jumped (hart_in s.harts h) to link) s (same_status (hart_in s.harts h) to link)
jump_alike (Some outcome) h to link s = ended_alike outcome s

written_alike : (h block : ℕ) (s : State) → IsAlike s (record s { harts = written_by h block s.harts })
unfolding written_by
written_alike h block s = record {
  system = refl;
  status = status_written h block s.harts;
  made = length-set (map (unreserved (λ b. b == block)) s.harts) h (hart_in s.harts h) ∙ length-map s.harts (unreserved (λ b. b == block));
}

module _ (origin : ℕ → ℕ) (p : Picture) (h : ℕ) where
  answer_leaves : (indirect : Bool) (answer : Acted) (s : State) → Leaves h s (by_answer origin p h indirect answer s)
  unfolding by_answer
  answer_leaves indirect acted.Next s = alike_leaves h s s (itself s)
  answer_leaves indirect (acted.Stored block) s = alike_leaves h s _ (written_alike h block s)
  answer_leaves indirect (acted.Jump to by link) s =
      alike_leaves h s _ (jump_alike (fault_of_jump p indirect (place_of origin h s) (original origin (record { number = to; tag = by })) by) h to link s)
  answer_leaves indirect acted.Call s = call_leaves origin h s
  answer_leaves indirect (acted.Trap cause value) s = alike_leaves h s _ (ended_alike _ s)
  answer_leaves indirect (acted.LinkUse rule) s = alike_leaves h s _ (ended_alike _ s)
  answer_leaves indirect acted.NoMemory s = alike_leaves h s s (itself s)

  affected_alike : (e : Effect) (s : State) → IsAlike s (affected origin h e s)
  affected_alike e s = record {
    system = refl;
    status = status_set s.harts h (hart_after e (hart_in s.harts h)) (keeps_status e (hart_in s.harts h));
    made = length-set s.harts h (hart_after e (hart_in s.harts h));
  }

  effect_leaves : (indirect : Bool) (e : Effect) (s : State) → Leaves h s (after_effect origin p h indirect e s)
  unfolding after_effect
  effect_leaves indirect e s = after_alike h s (affected origin h e s) _ (affected_alike e s) (answer_leaves indirect (answer_of e) (affected origin h e s))

  instr_leaves : (word : ℕ) (i : Option Instr) (s : State) → Leaves h s (on_instr origin p h word i s)
  instr_leaves word None s = alike_leaves h s _ (ended_alike _ s)
  instr_leaves word (Some i) s = effect_leaves (is_indirect i) (effect_of origin s.memory (hart_in s.harts h) i) s

  fetched_leaves : (fetched : Option ℕ) (s : State) → Leaves h s (on_fetched origin p h fetched s)
  unfolding on_fetched
  fetched_leaves None s = alike_leaves h s _ (ended_alike _ s)
  fetched_leaves (Some word) s = instr_leaves word (decoded word) s

  settled_leaves : (s t : State) → Leaves h s t → Leaves h s (settled t)
  unfolding settled
  settled_leaves s t l = by_test (not (is_some t.outcome) && is_stalled t.harts)
    where
      by_test : (b : Bool) → Leaves h s (if b then ended Stalled t else t)
      by_test true = record { made = l.made; live = l.live; listed = l.listed }
      by_test false = l

-- by any words and any original numbers
pub step_with_leaves : (fetch : ℕ → Option ℕ) (origin : ℕ → ℕ) (p : Picture) (h : ℕ) (s : State) → Leaves h s (step_with fetch origin p h s)
unfolding step_with
step_with_leaves fetch origin p h s = by_test (can_step h s)
  where
    next : State
    next = settled (on_fetched origin p h (fetch (hart_in s.harts h).pc) s)

    by_test : (b : Bool) → Leaves h s (if b then next else s)
    by_test true = settled_leaves origin p h s _ (fetched_leaves origin p h (fetch (hart_in s.harts h).pc) s)
    by_test false = alike_leaves h s s (itself s)

pub step_leaves : (p : Picture) (h : ℕ) (s : State) → Leaves h s (original_step p h s)
unfolding original_step
step_leaves p h s = step_with_leaves (word_at p.texts) (λ a. a) p h s

-- a live hart isn't on a list that has no live one
pub off_list : (k : ℕ) (s : State) → ListsNoLive s → IsLiveIn s.harts k → IsOff k s.system.waiting
off_list k s none live i d within same =
    let both : true ≡ false = sym live ∙ ap (λ j. is_live (hart_in s.harts j).status) (sym same) ∙ none i d within in
    cc

pub start_lists : (p : Picture) (input : List ℕ) → ListsNoLive (start_of p input)
unfolding start_of
start_lists p input = All-nil (λ (w : Waiter). IsIdleIn (start_of p input).harts w.hart)
