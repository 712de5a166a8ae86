-- Harts that are woken, and those that wait on, after a call.
use Rattle.std.proofs.Common.{◌≡◌, ◌≢◌, ℕ, zero, suc, ◌+◌, Bool, true, false, List, [], ◌∷◌, ◌++◌, get_or, refl, sym, ap, ◌∙◌, subst}
use Rattle.std.specs.Prelude.{◌==◌, ◌||◌, Some, All, AllPairs, slice_get, slice_set}
use Rattle.std.proofs.lemmas.Bool.{true≢false, eqb-false}
use Rattle.std.proofs.lemmas.List.Elements.{All-nil, All-cons, All-head, All-tail, All-map, All-push}
use Rattle.oc_base.specs.declared.range.Range.{Range}
use Rattle.hart.specs.declared.hart.Hart.{Hart}
use Rattle.hart.specs.declared.hart.Status.{Status}
use Rattle.hart.specs.declared.hart.Status.TheVariants.{Live, Waiting, Ended}
use Rattle.guest_sys.specs.declared.state.Waiter.{Waiter}
use Rattle.guest_sys.specs.declared.effect.Reply.{Reply}
use Rattle.guest_sys.specs.declared.effect.Reply.TheVariants as reply
use Rattle.guest_sys.specs.Waiting.{first_at, others, harts, requeued}
use Rattle.guest_sys.specs.Calls.{Done, ranges}
use Rattle.machine.specs.Harts.{is_live, hart_in, is_in, written_in, awake, woken, waiting_at, waiting_as, answered, stopped, child_of, replied}
use Rattle.machine.specs.Steps.{harts_after}
use Rattle.sim_laws.specs.Related.{is_waiting, is_listed, AreWaiting}
use Rattle.sim_laws.proofs.HartLists.{live_at, get_set, get_other, hart_at}
use Rattle.sim_laws.proofs.Settled.{KeepStatus, status_map}
use Rattle.sim_laws.proofs.Written.{hart_map}
use Rattle.sim_laws.proofs.Fair.{is_wait, Queued, stays, joins, wakes, moves}
use Rattle.sim_laws.proofs.Queue.{or_some, left_listed, requeue_listed, join_listed, not_listed, Other, pairs_head, pairs_tail, pairs_nil, pairs_map, after_wake, wake_all, requeue_all, after_requeue, after_join}

abbrev IsLiveIn : List Hart → ℕ → Type 0
IsLiveIn hs h = is_live (hart_in hs h).status ≡ true

abbrev pub WaitsIn : List Hart → ℕ → Type 0
WaitsIn hs k = is_waiting (hart_in hs k).status ≡ true

pub clash : (s : Status) → is_live s ≡ true → is_waiting s ≡ true → ⊥
clash Live e f = absurd (cc)
clash (Waiting at) e f = absurd (cc)
clash Ended e f = absurd (cc)

pub hart_other : (hs : List Hart) (h k : ℕ) (y : Hart) → k ≢ h → hart_in (slice_set hs h y) k ≡ hart_in hs k
hart_other [] h k y n = refl
hart_other (z ∷ zs) zero zero y n = absurd (n refl)
hart_other (z ∷ zs) zero (suc k) y n = refl
hart_other (z ∷ zs) (suc h) zero y n = refl
hart_other (z ∷ zs) (suc h) (suc k) y n = hart_other zs h k y (λ e. n (ap suc e))

pub hart_set : (hs : List Hart) (h : ℕ) (y : Hart) → IsLiveIn hs h → hart_in (slice_set hs h y) h ≡ y
hart_set hs h y live = hart_at (slice_set hs h y) h y (get_set hs h (hart_in hs h) y (live_at hs h live))

lives_set : (hs : List Hart) (k : ℕ) (x : Hart) → is_live x.status ≡ true → (h : ℕ) → IsLiveIn hs h → IsLiveIn (slice_set hs k x) h
lives_set [] k x l h e = e
lives_set (y ∷ ys) zero x l zero e = l
lives_set (y ∷ ys) zero x l (suc h) e = e
lives_set (y ∷ ys) (suc k) x l zero e = e
lives_set (y ∷ ys) (suc k) x l (suc h) e = lives_set ys k x l h e

pub lives_woken : (ks : List ℕ) (hs : List Hart) (h : ℕ) → IsLiveIn hs h → IsLiveIn (woken ks hs) h
lives_woken [] hs h e = e
lives_woken (k ∷ ks) hs h e = lives_woken ks (slice_set hs k (awake (hart_in hs k))) h (lives_set hs k (awake (hart_in hs k)) refl h e)

pub lives_written : (rs : List Range) (hs : List Hart) (h : ℕ) → IsLiveIn hs h → IsLiveIn (written_in rs hs) h
unfolding written_in
lives_written rs hs h e = ap (λ (x : Hart). is_live x.status) (hart_map (is_in rs) hs h) ∙ e

-- who isn't woken
pub get_woken : (ks : List ℕ) (hs : List Hart) (h : ℕ) → All (λ j. h ≢ j) ks → slice_get (woken ks hs) h ≡ slice_get hs h
get_woken [] hs h n = refl
get_woken (k ∷ ks) hs h n =
    get_woken ks (slice_set hs k (awake (hart_in hs k))) h (All-tail (λ j. h ≢ j) k ks n) ∙ get_other hs k h (awake (hart_in hs k)) (All-head (λ j. h ≢ j) k ks n)

waits_woken : (ks : List ℕ) (hs : List Hart) (k : ℕ) → All (λ j. k ≢ j) ks → WaitsIn hs k → WaitsIn (woken ks hs) k
waits_woken [] hs k n e = e
waits_woken (j ∷ js) hs k n e =
    waits_woken js (slice_set hs j (awake (hart_in hs j))) k (All-tail (λ j. k ≢ j) j js n)
    (ap (λ (x : Hart). is_waiting x.status) (hart_other hs j k (awake (hart_in hs j)) (All-head (λ j. k ≢ j) j js n)) ∙ e)

pub status_written_in : (rs : List Range) (hs : List Hart) → KeepStatus hs (written_in rs hs)
unfolding written_in
status_written_in rs hs = status_map (is_in rs) hs

-- each hart that waits does so where it did
abbrev StillWait : List Hart → List Hart → Type 0
StillWait before now = (k : ℕ) → is_waiting (hart_in before k).status ≡ true → (hart_in now k).status ≡ (hart_in before k).status

waits_set : (hs : List Hart) (h : ℕ) (x : Hart) → (is_waiting (hart_in hs h).status ≡ true → x.status ≡ (hart_in hs h).status) → StillWait hs (slice_set hs h x)
waits_set [] h x f k e = refl
waits_set (y ∷ ys) zero x f zero e = f e
waits_set (y ∷ ys) zero x f (suc k) e = refl
waits_set (y ∷ ys) (suc h) x f zero e = refl
waits_set (y ∷ ys) (suc h) x f (suc k) e = waits_set ys h x f k e

waits_push : (hs : List Hart) (x : Hart) → StillWait hs (hs ++ x ∷ [])
waits_push [] x k e = absurd (cc)
waits_push (y ∷ ys) x zero e = refl
waits_push (y ∷ ys) x (suc k) e = waits_push ys x k e

waits_at_live : (hs : List Hart) (h : ℕ) (x : Hart) → IsLiveIn hs h → StillWait hs (slice_set hs h x)
waits_at_live hs h x live = waits_set hs h x (λ e. absurd (clash (hart_in hs h).status live e))

waits_replied : (h : ℕ) (r : Reply) (hs : List Hart) → IsLiveIn hs h → StillWait hs (replied h r hs)
unfolding replied
waits_replied h (reply.Answer value) hs live = waits_at_live hs h _ live
waits_replied h (reply.Wait at) hs live = waits_at_live hs h _ live
waits_replied h reply.EndHart hs live = waits_at_live hs h _ live
waits_replied h (reply.Clone stack thread clear tid) hs live = λ k e.
    let same = waits_at_live hs h (answered tid (hart_in hs h)) live k e in
    waits_push (slice_set hs h (answered tid (hart_in hs h))) (child_of (hart_in hs h) stack thread clear) k (ap is_waiting same ∙ e) ∙ same
waits_replied h (reply.SetClear clear) hs live = waits_at_live hs h _ live
waits_replied h r hs live = λ k e. refl

joins_waiting : (h at : ℕ) (hs : List Hart) → IsLiveIn hs h → WaitsIn (replied h (reply.Wait at) hs) h
unfolding replied
joins_waiting h at hs live = ap (λ (x : Hart). is_waiting x.status) (hart_set hs h (stopped (Waiting at) (hart_in hs h)) live)

-- ---- no other hart waits than one that did, and hart h where it was told to wait
no_wait : (s : Status) → is_live s ≡ true → is_waiting s ≡ false
no_wait Live e = refl
no_wait (Waiting at) e = absurd (cc)
no_wait Ended e = absurd (cc)

not_set : (hs : List Hart) (h : ℕ) (x : Hart) → is_waiting x.status ≡ false → WaitsIn (slice_set hs h x) h → ⊥
not_set [] h x f e = absurd (cc)
not_set (y ∷ ys) zero x f e = true≢false (sym e ∙ f)
not_set (y ∷ ys) (suc h) x f e = not_set ys h x f e

waited : (hs : List Hart) (h : ℕ) (x : Hart) → is_waiting x.status ≡ false → (k : ℕ) → WaitsIn (slice_set hs h x) k → WaitsIn hs k
waited [] h x f k e = e
waited (y ∷ ys) zero x f zero e = absurd (true≢false (sym e ∙ f))
waited (y ∷ ys) zero x f (suc k) e = e
waited (y ∷ ys) (suc h) x f zero e = e
waited (y ∷ ys) (suc h) x f (suc k) e = waited ys h x f k e

waited_push : (hs : List Hart) (x : Hart) → is_waiting x.status ≡ false → (k : ℕ) → WaitsIn (hs ++ x ∷ []) k → WaitsIn hs k
waited_push [] x f zero e = absurd (true≢false (sym e ∙ f))
waited_push [] x f (suc k) e = e
waited_push (y ∷ ys) x f zero e = e
waited_push (y ∷ ys) x f (suc k) e = waited_push ys x f k e

waited_before : (h : ℕ) (r : Reply) (hs : List Hart) → IsLiveIn hs h → is_wait r ≡ false → (k : ℕ) → WaitsIn (replied h r hs) k → WaitsIn hs k
unfolding replied
waited_before h (reply.Answer value) hs live f k e = waited hs h (answered value (hart_in hs h)) (no_wait (hart_in hs h).status live) k e
waited_before h (reply.Wait at) hs live f k e = absurd (cc)
waited_before h reply.EndHart hs live f k e = waited hs h (stopped Ended (hart_in hs h)) refl k e
waited_before h (reply.Clone stack thread clear tid) hs live f k e =
    waited hs h (answered tid (hart_in hs h)) (no_wait (hart_in hs h).status live) k
    (waited_push (slice_set hs h (answered tid (hart_in hs h))) (child_of (hart_in hs h) stack thread clear) refl k e)
waited_before h (reply.SetClear clear) hs live f k e = waited hs h (answered (h + 1) (record (hart_in hs h) { clear = clear })) (no_wait (hart_in hs h).status live) k e
waited_before h r hs live f k e = e

told_to_wait : (h at : ℕ) (hs : List Hart) (k : ℕ) → k ≢ h → WaitsIn (replied h (reply.Wait at) hs) k → WaitsIn hs k
unfolding replied
told_to_wait h at hs k n e = ap (λ (x : Hart). is_waiting x.status) (sym (hart_other hs h k (stopped (Waiting at) (hart_in hs h)) n)) ∙ e

not_woken : (ks : List ℕ) (hs : List Hart) (k : ℕ) → WaitsIn (woken ks hs) k → All (λ j. k ≢ j) ks × WaitsIn hs k
not_woken [] hs k e = (All-nil (λ j. k ≢ j), e)
not_woken (j ∷ js) hs k e =
    let x = awake (hart_in hs j) in
    let rest = not_woken js (slice_set hs j x) k e in
    (All-cons (λ i. k ≢ i) j js (λ q. not_set hs j x refl (subst (WaitsIn (slice_set hs j x)) q rest.1)) rest.0, waited hs j x refl k rest.1)

-- those that are woken wait, none is there twice, and hart h isn't among them
pub record AreWoken (h : ℕ) (ks : List ℕ) (hs : List Hart) : Type 0 where
  pub wait : All (WaitsIn hs) ks
  pub once : AllPairs (λ j k. j ≢ k) ks
  pub elsewhere : All (λ j. h ≢ j) ks

-- each on the list waits, at whatever address, and is there once
pub record AreListed (waiting : List Waiter) (harts : List Hart) : Type 0 where
  pub wait : All (λ w. WaitsIn harts w.hart) waiting
  pub once : AllPairs Other waiting

-- ---- each on the list waits where the list has it
waits_otherwise : (ws : List Waiter) (hs : List Hart) (h : ℕ) → All (λ w. h ≢ w.hart) ws → hart_in (waiting_as ws hs) h ≡ hart_in hs h
waits_otherwise [] hs h n = refl
waits_otherwise (w ∷ ws) hs h n =
    let x = waiting_at w.at (hart_in hs w.hart) in
    waits_otherwise ws (slice_set hs w.hart x) h (All-tail (λ (v : Waiter). h ≢ v.hart) w ws n) ∙ hart_other hs w.hart h x (All-head (λ (v : Waiter). h ≢ v.hart) w ws n)

pub listed_tail : (w : Waiter) (ws : List Waiter) (hs : List Hart) (x : Hart) → AreListed (w ∷ ws) hs → AreListed ws (slice_set hs w.hart x)
listed_tail w ws hs x a =
    let far = pairs_head Other w ws a.once in
    record {
      wait = λ i d l. ap (λ (z : Hart). is_waiting z.status) (hart_other hs w.hart (get_or ws i d).hart x (λ e. far i d l (sym e)))
          ∙ All-tail (λ (v : Waiter). WaitsIn hs v.hart) w ws a.wait i d l;
      once = pairs_tail Other w ws a.once;
    }

pub found_waiting : (hs : List Hart) (k : ℕ) → WaitsIn hs k → slice_get hs k ≡ Some (hart_in hs k)
found_waiting [] k e = absurd (cc)
found_waiting (y ∷ ys) zero e = refl
found_waiting (y ∷ ys) (suc k) e = found_waiting ys k e

listed_at : (ws : List Waiter) (hs : List Hart) → AreListed ws hs → All (λ w. (hart_in (waiting_as ws hs) w.hart).status ≡ Waiting w.at) ws
listed_at [] hs a = All-nil (λ w. (hart_in hs w.hart).status ≡ Waiting w.at)
listed_at (w ∷ ws) hs a =
    let x = waiting_at w.at (hart_in hs w.hart) in
    let next = slice_set hs w.hart x in
    let here : hart_in next w.hart ≡ x = hart_at next w.hart x (get_set hs w.hart (hart_in hs w.hart) x (found_waiting hs w.hart (All-head (λ (v : Waiter). WaitsIn hs v.hart) w ws a.wait))) in
    All-cons (λ v. (hart_in (waiting_as ws next) v.hart).status ≡ Waiting v.at) w ws
    (ap (λ (z : Hart). z.status) (waits_otherwise ws next w.hart (pairs_head Other w ws a.once) ∙ here))
    (listed_at ws next (listed_tail w ws hs x a))

listed_now : (ws : List Waiter) (hs : List Hart) → ((k : ℕ) → WaitsIn hs k → is_listed ws k ≡ true) → (k : ℕ) → WaitsIn (waiting_as ws hs) k → is_listed ws k ≡ true
listed_now ws hs f k e = by_test (is_listed ws k) refl
  where
    by_test : (b : Bool) → is_listed ws k ≡ b → is_listed ws k ≡ true
    by_test true q = q
    by_test false q = f k (ap (λ (x : Hart). is_waiting x.status) (sym (waits_otherwise ws hs k (not_listed k ws q))) ∙ e)

pub now_waiting : (ws : List Waiter) (hs : List Hart) → AreListed ws hs → ((k : ℕ) → WaitsIn hs k → is_listed ws k ≡ true) → AreWaiting ws (waiting_as ws hs)
now_waiting ws hs a f = record { wait = listed_at ws hs a; once = a.once; listed = listed_now ws hs f }

module _ (h : ℕ) (d : Done) (hs : List Hart) (ws : List Waiter) (live : IsLiveIn hs h) (a : AreWaiting ws hs) where
  waits : All (λ w. WaitsIn hs w.hart) ws
  waits k x l = ap is_waiting (a.wait k x l)

  still : (k : ℕ) → All (λ j. k ≢ j) d.woken → WaitsIn hs k → WaitsIn (harts_after h d hs) k
  still k far e =
      let rs = ranges d.changes in
      let w = waits_woken d.woken (written_in rs hs) k far (ap is_waiting (status_written_in rs hs k) ∙ e) in
      ap is_waiting (waits_replied h d.reply (woken d.woken (written_in rs hs)) (lives_woken d.woken (written_in rs hs) h (lives_written rs hs h live)) k w) ∙ w

  -- those that aren't woken
  left : (fs vs : List Waiter) → d.woken ≡ harts fs → All (λ v. WaitsIn hs v.hart) vs → All (λ v. All (Other v) fs) vs → All (λ v. WaitsIn (harts_after h d hs) v.hart) vs
  left fs vs e wait far k x l =
      still (get_or vs k x).hart (subst (All (λ j. (get_or vs k x).hart ≢ j)) (sym e) (All-map (λ j. (get_or vs k x).hart ≢ j) (λ (w : Waiter). w.hart) fs (far k x l))) (wait k x l)

  none_woken : (vs : List Waiter) → All (λ v. All (Other v) []) vs
  none_woken vs k x l = All-nil (Other (get_or vs k x))

  as_list : (vs : List Waiter) → d.state.waiting ≡ vs → AreListed vs (harts_after h d hs) → AreListed d.state.waiting (harts_after h d hs)
  as_list vs e k = subst (λ us. AreListed us (harts_after h d hs)) (sym e) k

  joined : (at : ℕ) → d.reply ≡ reply.Wait at → WaitsIn (harts_after h d hs) h
  joined at e =
      let rs = ranges d.changes in
      let hs1 = woken d.woken (written_in rs hs) in
      subst (λ r. WaitsIn (replied h r hs1) h) (sym e) (joins_waiting h at hs1 (lives_woken d.woken (written_in rs hs) h (lives_written rs hs h live)))

  pub not_waiting : All (λ w. w.hart ≢ h) ws
  not_waiting k x l e = clash (hart_in hs h).status live (subst (WaitsIn hs) e (waits k x l))

  pub queue_kept : Queued ws h d → AreListed d.state.waiting (harts_after h d hs)
  queue_kept (stays q e f) = as_list ws f (record { wait = left [] ws e waits (none_woken ws); once = a.once })
  queue_kept (joins at q e f) =
      as_list (ws ++ (record { hart = h; at = at }) ∷ []) f (record {
        wait = All-push (λ v. WaitsIn (harts_after h d hs) v.hart) ws (record { hart = h; at = at }) (left [] ws e waits (none_woken ws)) (joined at q);
        once = after_join h at ws a.once not_waiting;
      })
  queue_kept (wakes n b q e f) =
      let split = after_wake n b ws a.once in
      as_list (others n b ws) f (record {
        wait = left (first_at n b ws) (others n b ws) e (wake_all (λ v. WaitsIn hs v.hart) n b ws waits).1 split.not_woken;
        once = split.left_once;
      })
  queue_kept (moves n b m to q e f) =
      let split = after_requeue n b m to ws a.once in
      as_list (requeued m b to (others n b ws)) f (record {
        wait = left (first_at n b ws) (requeued m b to (others n b ws)) e (requeue_all (WaitsIn hs) m b to (others n b ws) (wake_all (λ v. WaitsIn hs v.hart) n b ws waits).1) split.not_woken;
        once = split.left_once;
      })

  -- who waits after the call but for the one that made it
  stays_listed : (k : ℕ) → WaitsIn (woken d.woken (written_in (ranges d.changes) hs)) k → All (λ j. k ≢ j) d.woken × (is_listed ws k ≡ true)
  stays_listed k e =
      let rest = not_woken d.woken (written_in (ranges d.changes) hs) k e in
      (rest.0, a.listed k (ap is_waiting (sym (status_written_in (ranges d.changes) hs k)) ∙ rest.1))

  answered_listed : is_wait d.reply ≡ false → (k : ℕ) → WaitsIn (harts_after h d hs) k → All (λ j. k ≢ j) d.woken × (is_listed ws k ≡ true)
  answered_listed q k e =
      let rs = ranges d.changes in
      stays_listed k (waited_before h d.reply (woken d.woken (written_in rs hs)) (lives_woken d.woken (written_in rs hs) h (lives_written rs hs h live)) q k e)

  by_caller : (at k : ℕ) → d.reply ≡ reply.Wait at → (b : Bool) → (h == k) ≡ b → WaitsIn (harts_after h d hs) k → (is_listed ws k || (h == k)) ≡ true
  by_caller at k r true q e = ap (λ b. is_listed ws k || b) q ∙ or_some (is_listed ws k)
  by_caller at k r false q e =
      let hs1 = woken d.woken (written_in (ranges d.changes) hs) in
      let told : WaitsIn (replied h (reply.Wait at) hs1) k = subst (λ x. WaitsIn (replied h x hs1) k) r e in
      ap (λ b. b || (h == k)) (stays_listed k (told_to_wait h at hs1 k (λ n. eqb-false h k q (sym n)) told)).1

  as_first : (n b k : ℕ) → d.woken ≡ harts (first_at n b ws) → All (λ j. k ≢ j) d.woken → All (λ w. k ≢ w.hart) (first_at n b ws)
  as_first n b k e far = each (first_at n b ws) (subst (All (λ j. k ≢ j)) e far)
    where
      each : (vs : List Waiter) → All (λ j. k ≢ j) (harts vs) → All (λ w. k ≢ w.hart) vs
      each [] f = All-nil (λ w. k ≢ w.hart)
      each (v ∷ vs) f = All-cons (λ w. k ≢ w.hart) v vs (All-head (λ j. k ≢ j) v.hart (harts vs) f) (each vs (All-tail (λ j. k ≢ j) v.hart (harts vs) f))

  pub queue_listed : Queued ws h d → (k : ℕ) → WaitsIn (harts_after h d hs) k → is_listed d.state.waiting k ≡ true
  queue_listed (stays q e f) k w = ap (λ vs. is_listed vs k) f ∙ (answered_listed q k w).1
  queue_listed (joins at q e f) k w = ap (λ vs. is_listed vs k) f ∙ join_listed h at k ws (by_caller at k q (h == k) refl w)
  queue_listed (wakes n b q e f) k w =
      let known = answered_listed q k w in
      ap (λ vs. is_listed vs k) f ∙ left_listed n b k ws (as_first n b k e known.0) known.1
  queue_listed (moves n b m to q e f) k w =
      let known = answered_listed q k w in
      ap (λ vs. is_listed vs k) f ∙ requeue_listed m b to k (others n b ws) (left_listed n b k ws (as_first n b k e known.0) known.1)

  as_woken : (ks : List ℕ) → d.woken ≡ ks → AreWoken h ks hs → AreWoken h d.woken hs
  as_woken ks e k = subst (λ js. AreWoken h js hs) (sym e) k

  none_of : AreWoken h [] hs
  none_of = record { wait = All-nil (WaitsIn hs); once = pairs_nil (λ j k. j ≢ k); elsewhere = All-nil (λ j. h ≢ j) }

  first_of : (n b : ℕ) → AreWoken h (harts (first_at n b ws)) hs
  first_of n b = record {
    wait = All-map (WaitsIn hs) (λ (w : Waiter). w.hart) (first_at n b ws) (wake_all (λ w. WaitsIn hs w.hart) n b ws waits).0;
    once = pairs_map (λ j k. j ≢ k) (λ (w : Waiter). w.hart) (first_at n b ws) (after_wake n b ws a.once).woken_once;
    elsewhere = All-map (λ j. h ≢ j) (λ (w : Waiter). w.hart) (first_at n b ws) (λ k x l e. (wake_all (λ w. w.hart ≢ h) n b ws not_waiting).0 k x l (sym e));
  }

  pub queue_woken : Queued ws h d → AreWoken h d.woken hs
  queue_woken (stays q e f) = as_woken [] e none_of
  queue_woken (joins at q e f) = as_woken [] e none_of
  queue_woken (wakes n b q e f) = as_woken (harts (first_at n b ws)) e (first_of n b)
  queue_woken (moves n b m to q e f) = as_woken (harts (first_at n b ws)) e (first_of n b)

-- at a start none waits
pub none_waits : (x : Hart) → is_live x.status ≡ true → AreWaiting [] (x ∷ [])
none_waits x live = record {
  wait = All-nil (λ w. (hart_in (x ∷ []) w.hart).status ≡ Waiting w.at);
  once = pairs_nil Other;
  listed = by_number;
}
  where
    by_number : (h : ℕ) → is_waiting (hart_in (x ∷ []) h).status ≡ true → is_listed [] h ≡ true
    by_number zero e = absurd (clash x.status live e)
    by_number (suc h) e = e
