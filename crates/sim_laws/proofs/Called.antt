-- A system call leaves related states.
use Rattle.std.proofs.Common.{◌≡◌, ◌≢◌, ℕ, zero, suc, ◌+◌, ◌-◌, ◌%◌, Bool, true, false, cond, List, [], ◌∷◌, map, length, get_or, refl, sym, ap, ◌∙◌, subst, arith}
use Rattle.std.specs.Prelude.{Option, Some, None, All, AllPairs, slice_get, slice_set}
use Rattle.std.specs.List.{range_with_len}
use Rattle.std.proofs.lemmas.Bool.{true≢false}
use Rattle.std.proofs.lemmas.List.Elements.{All-head, All-tail}
use Rattle.image.specs.Picture.{Picture}
use Rattle.link_tags.specs.declared.value.Value.{Value}
use Rattle.link_tags.specs.Values.{plain, is_link}
use Rattle.guest_mem.specs.Memory.{Memory}
use Rattle.guest_mem.specs.Access.{seen}
use Rattle.hart.specs.declared.hart.Hart.{Hart}
use Rattle.hart.specs.declared.hart.Status.{Status}
use Rattle.hart.specs.declared.hart.Status.TheVariants.{Live, Waiting, Ended}
use Rattle.hart.specs.Harts.{reg, with_reg}
use Rattle.guest_sys.specs.declared.state.Waiter.{Waiter}
use Rattle.guest_sys.specs.declared.effect.Reply.{Reply}
use Rattle.guest_sys.specs.declared.effect.Reply.TheVariants as reply
use Rattle.guest_sys.specs.State as system
use Rattle.guest_sys.specs.Calls.{Change, put_at, map_zero, give_rights, Done, asked, changed, all_changed, ranges}
use Rattle.layout.specs.declared.point.Point.TheVariants.{Mid}
use Rattle.layout.specs.Points.{Code, StandsFor, at_start, at_hop}
use Rattle.machine.specs.declared.outcome.Outcome.TheVariants.{Exit, LinkUse}
use Rattle.machine.specs.Harts.{is_live, has_ended, hart_in, is_in, unreserved, written_in, awake, woken, waiting_at, waiting_as, answered, stopped, with_thread, child_of, replied}
use Rattle.machine.specs.States.{State}
use Rattle.machine.specs.Steps.{arguments_of, call_of, end_by, called}
use Rattle.sim_laws.specs.Origins.{origin}
use Rattle.sim_laws.specs.Related.{Both, Lands, ValuesRelated, both_plain, both_links, MemoriesRelated, RegsRelated, PlacesRelated, whole, half, GoOnAlike, HartsRelated, is_waiting, StatesRelated}
use Rattle.sim_laws.proofs.Lands.{plain_related}
use Rattle.sim_laws.proofs.EffectPairs.{Follows}
use Rattle.sim_laws.proofs.HartLists.{no_left, no_right, found_both, set_both, push_both, all_same, hart_at}
use Rattle.sim_laws.proofs.GoingOn.{length-with_reg, regs_written, lands_alike}
use Rattle.sim_laws.proofs.Written.{hart_map, unreserved_related, ranges_related}
use Rattle.sim_laws.proofs.Jumped.{IsAt, harts_of}
use Rattle.sim_laws.proofs.Asked.{AskAlike, asked_same}
use Rattle.sim_laws.proofs.Fair.{IsWhole, is_end, IsFair, asked_fair, ends_alike}
use Rattle.sim_laws.proofs.Woken.{WaitsIn, hart_other, hart_set, status_written_in, AreWoken, AreListed, found_waiting, listed_tail, now_waiting, queue_kept, queue_listed, queue_woken}
use Rattle.sim_laws.proofs.MemoryLaws.{seen_same, put_related, mapped_related, rights_related}

-- ---- one hart of a list
waiting_goes_on : (s : Status) → is_waiting s ≡ true → (has_ended s ≡ false) × (is_live s ≡ false)
waiting_goes_on Live e = absurd (cc)
waiting_goes_on (Waiting at) e = (refl, refl)
waiting_goes_on Ended e = absurd (cc)

hart_woken : (ks : List ℕ) (hs : List Hart) (h : ℕ) → All (λ j. h ≢ j) ks → hart_in (woken ks hs) h ≡ hart_in hs h
hart_woken [] hs h n = refl
hart_woken (k ∷ ks) hs h n =
    hart_woken ks (slice_set hs k (awake (hart_in hs k))) h (All-tail (λ j. h ≢ j) k ks n) ∙ hart_other hs k h (awake (hart_in hs k)) (All-head (λ j. h ≢ j) k ks n)

hart_written : (rs : List _) (hs : List Hart) (h : ℕ) → hart_in (written_in rs hs) h ≡ unreserved (is_in rs) (hart_in hs h)
unfolding written_in
hart_written rs hs h = hart_map (is_in rs) hs h

length-with_thread : (thread : Option ℕ) (rs : List Value) → length (with_thread thread rs) ≡ length rs
length-with_thread None rs = refl
length-with_thread (Some at) rs = length-with_reg rs 4 (plain at)

module _ (p : Picture) (c : Code) where
  abbrev AreRelated : List Hart → List Hart → Type 0
  AreRelated rs os = (k : ℕ) → Both (HartsRelated p c) (slice_get rs k) (slice_get os k)

  hart_both : (rs os : List Hart) (k : ℕ) (y : Hart) → slice_get os k ≡ Some y → AreRelated rs os → HartsRelated p c (hart_in rs k) y
  hart_both [] [] k y e b = absurd (cc)
  hart_both [] (w ∷ os) k y e b = absurd (no_left (b 0))
  hart_both (v ∷ rs) [] k y e b = absurd (no_right (b 0))
  hart_both (v ∷ rs) (w ∷ os) zero y e b = let same : w ≡ y = cc in subst (HartsRelated p c v) same (found_both (b 0))
  hart_both (v ∷ rs) (w ∷ os) (suc k) y e b = hart_both rs os k y e (λ j. b (suc j))

  -- a hart that goes on where both land
  landed : (r o : Hart) → length r.regs ≡ 32 → length o.regs ≡ 32 → r.status ≡ o.status → r.reservation ≡ o.reservation → r.clear ≡ o.clear
      → Lands p c r.pc o.pc → RegsRelated p c r.regs o.regs → HartsRelated p c r o
  landed r o e f s z k l g = record { replaced_length = e; original_length = f; status = s; reservation = z; clear = k; alike = λ _. lands_alike p c l g }

  -- ---- wake-ups
  mid_stands : {a x y : ℕ} → c.point a ≡ Some (Mid x) → StandsFor c a y → ⊥
  mid_stands m (at_start e) = absurd (cc)
  mid_stands m (at_hop e) = absurd (cc)

  rests_regs : {a x : ℕ} {rs os : List Value} → StandsFor c a x → PlacesRelated p c a rs x os → RegsRelated p c rs os
  rests_regs n (whole s b) = b
  rests_regs n (half b rd high m e v u) = absurd (mid_stands (ap c.point e ∙ m.mid) n)

  awake_related : (r o : Hart) → HartsRelated p c r o → is_waiting o.status ≡ true → HartsRelated p c (awake r) (awake o)
  awake_related r o k e =
      let s = waiting_goes_on o.status e in
      let g = k.alike s.0 in
      let n = g.rests s.1 in
      landed (awake r) (awake o) (length-with_reg r.regs 10 (plain 0) ∙ k.replaced_length) (length-with_reg o.regs 10 (plain 0) ∙ k.original_length) refl k.reservation k.clear
      (record { stands = n.stands; whole = g.whole; fits = g.fits; outside = g.outside; unpaired = n.unpaired })
      (regs_written p c r.regs o.regs 10 (plain 0) (plain 0) k.replaced_length k.original_length (rests_regs n.stands g.places) (λ _. plain_related p c 0))

  woken_related : (ks : List ℕ) (rs os : List Hart) → AreRelated rs os → All (WaitsIn os) ks → AllPairs (λ j k. j ≢ k) ks → AreRelated (woken ks rs) (woken ks os)
  woken_related [] rs os b w once = b
  woken_related (k ∷ ks) rs os b w once =
      let here = All-head (WaitsIn os) k ks w in
      let x = awake (hart_in rs k) in
      let y = awake (hart_in os k) in
      woken_related ks (slice_set rs k x) (slice_set os k y)
      (set_both rs os k x y (awake_related (hart_in rs k) (hart_in os k) (hart_both rs os k (hart_in os k) (found_waiting os k here) b) here) b)
      (λ i d l. ap (λ (z : Hart). is_waiting z.status) (hart_other os k (get_or ks i d) y (λ e. once 0 (suc i) d (omega arith) (omega arith) (sym e))) ∙ All-tail (WaitsIn os) k ks w i d l)
      (λ i j d l m. once (suc i) (suc j) d (omega arith) (omega arith))

  -- ---- a waiting hart that waits at an address
  waiting_alike : (at : ℕ) (r o : Hart) → is_live o.status ≡ false → GoOnAlike p c r o → GoOnAlike p c (waiting_at at r) (waiting_at at o)
  waiting_alike at r o e g = record {
    whole = g.whole;
    fits = g.fits;
    outside = g.outside;
    pair = g.pair;
    places = g.places;
    rests = λ _. record { stands = (g.rests e).stands; unpaired = (g.rests e).unpaired };
  }

  waiting_related : (at : ℕ) (r o : Hart) → HartsRelated p c r o → is_waiting o.status ≡ true → HartsRelated p c (waiting_at at r) (waiting_at at o)
  waiting_related at r o k e =
      let s = waiting_goes_on o.status e in
      record {
        replaced_length = k.replaced_length;
        original_length = k.original_length;
        status = refl;
        reservation = k.reservation;
        clear = k.clear;
        alike = λ _. waiting_alike at r o s.1 (k.alike s.0);
      }

  listed_related : (ws : List Waiter) (rs os : List Hart) → AreRelated rs os → AreListed ws os → AreRelated (waiting_as ws rs) (waiting_as ws os)
  listed_related [] rs os b a = b
  listed_related (w ∷ ws) rs os b a =
      let here = All-head (λ (v : Waiter). WaitsIn os v.hart) w ws a.wait in
      let x = waiting_at w.at (hart_in rs w.hart) in
      let y = waiting_at w.at (hart_in os w.hart) in
      listed_related ws (slice_set rs w.hart x) (slice_set os w.hart y)
      (set_both rs os w.hart x y (waiting_related w.at (hart_in rs w.hart) (hart_in os w.hart) (hart_both rs os w.hart (hart_in os w.hart) (found_waiting os w.hart here) b) here) b)
      (listed_tail w ws os y a)

  -- ---- replies
  module _ (r o : Hart) (k : HartsRelated p c r o) (g : RegsRelated p c r.regs o.regs) (f : Follows p c r o) where
    ten : (v : ℕ) → RegsRelated p c (with_reg r.regs 10 (plain v)) (with_reg o.regs 10 (plain v))
    ten v = regs_written p c r.regs o.regs 10 (plain v) (plain v) k.replaced_length k.original_length g (λ _. plain_related p c _)

    length_left : (d v : ℕ) → length (with_reg r.regs d (plain v)) ≡ 32
    length_left d v = length-with_reg r.regs d (plain v) ∙ k.replaced_length

    length_right : (d v : ℕ) → length (with_reg o.regs d (plain v)) ≡ 32
    length_right d v = length-with_reg o.regs d (plain v) ∙ k.original_length

    answered_related : (v : ℕ) → HartsRelated p c (answered v r) (answered v o)
    answered_related v = landed (answered v r) (answered v o) (length_left 10 v) (length_right 10 v) k.status k.reservation k.clear f (ten v)

    cleared_related : (v clear : ℕ) → HartsRelated p c (answered v (record r { clear = clear })) (answered v (record o { clear = clear }))
    cleared_related v clear =
        landed (answered v (record r { clear = clear })) (answered v (record o { clear = clear })) (length_left 10 v) (length_right 10 v) k.status k.reservation refl f (ten v)

    stopped_related : (s : Status) → HartsRelated p c (stopped s r) (stopped s o)
    stopped_related s = landed (stopped s r) (stopped s o) k.replaced_length k.original_length refl k.reservation k.clear f g

    stacked : (stack : ℕ) → RegsRelated p c (with_reg (with_reg r.regs 10 (plain 0)) 2 (plain stack)) (with_reg (with_reg o.regs 10 (plain 0)) 2 (plain stack))
    stacked stack =
        regs_written p c (with_reg r.regs 10 (plain 0)) (with_reg o.regs 10 (plain 0)) 2 (plain stack) (plain stack) (length_left 10 0) (length_right 10 0) (ten 0) (λ _. plain_related p c _)

    threaded : (thread : Option ℕ) (rs os : List Value) → length rs ≡ 32 → length os ≡ 32 → RegsRelated p c rs os → RegsRelated p c (with_thread thread rs) (with_thread thread os)
    threaded None rs os e f b = b
    threaded (Some at) rs os e f b = regs_written p c rs os 4 (plain at) (plain at) e f b (λ _. plain_related p c _)

    child_related : (stack : ℕ) (thread : Option ℕ) (clear : ℕ) → HartsRelated p c (child_of r stack thread clear) (child_of o stack thread clear)
    child_related stack thread clear =
        let rs = with_reg (with_reg r.regs 10 (plain 0)) 2 (plain stack) in
        let os = with_reg (with_reg o.regs 10 (plain 0)) 2 (plain stack) in
        let e : length rs ≡ 32 = length-with_reg (with_reg r.regs 10 (plain 0)) 2 (plain stack) ∙ length_left 10 0 in
        let n : length os ≡ 32 = length-with_reg (with_reg o.regs 10 (plain 0)) 2 (plain stack) ∙ length_right 10 0 in
        landed (child_of r stack thread clear) (child_of o stack thread clear) (length-with_thread thread rs ∙ e) (length-with_thread thread os ∙ n) refl refl refl f
        (threaded thread rs os e n (stacked stack))

  module _ (h : ℕ) (rs os : List Hart) (b : AreRelated rs os) (k : HartsRelated p c (hart_in rs h) (hart_in os h))
      (g : RegsRelated p c (hart_in rs h).regs (hart_in os h).regs) (f : Follows p c (hart_in rs h) (hart_in os h)) where
    replied_related : (a : Reply) → AreRelated (replied h a rs) (replied h a os)
    unfolding replied
    replied_related (reply.Answer value) = set_both rs os h _ _ (answered_related (hart_in rs h) (hart_in os h) k g f value) b
    replied_related (reply.Wait at) = set_both rs os h _ _ (stopped_related (hart_in rs h) (hart_in os h) k g f (Waiting at)) b
    replied_related reply.EndHart = set_both rs os h _ _ (stopped_related (hart_in rs h) (hart_in os h) k g f Ended) b
    replied_related (reply.Clone stack thread clear tid) =
        push_both _ _ _ _ (child_related (hart_in rs h) (hart_in os h) k g f stack thread clear)
        (set_both rs os h _ _ (answered_related (hart_in rs h) (hart_in os h) k g f tid) b)
    replied_related (reply.SetClear clear) = set_both rs os h _ _ (cleared_related (hart_in rs h) (hart_in os h) k g f (h + 1) clear) b
    replied_related a = b

    -- ---- how the run ends
    ends_same : (place : origin c (hart_in rs h).pc ≡ (hart_in os h).pc) → is_live (hart_in rs h).status ≡ true → is_live (hart_in os h).status ≡ true
        → (a : Reply) → (is_end a ≡ true → (reg (hart_in rs h).regs 10).number ≡ (reg (hart_in os h).regs 10).number)
        → end_by (origin c) h a (replied h a rs) ≡ end_by (λ q. q) h a (replied h a os)
    unfolding replied
    ends_same place lr lo reply.EndHart ten =
        let x = stopped Ended (hart_in rs h) in
        let y = stopped Ended (hart_in os h) in
        let all = all_same (λ (z : Hart). has_ended z.status) (λ (z : Hart). has_ended z.status) (λ v w q. ap has_ended q.status) (slice_set rs h x) (slice_set os h y) (replied_related reply.EndHart) in
        let here = ap (λ (z : Hart). (reg z.regs 10).number) (hart_set rs h x lr) ∙ ten refl ∙ sym (ap (λ (z : Hart). (reg z.regs 10).number) (hart_set os h y lo)) in
        λ i. cond (all i) (Some (Exit (here i % 256))) None
    ends_same place lr lo (reply.LinkUse n) ten = ap (λ a. Some (LinkUse 5 a)) place
    ends_same place lr lo a ten = refl

  -- ---- memory
  one_changed : {m n : Memory} (x : Change) → IsWhole x → MemoriesRelated p c m n → MemoriesRelated p c (changed (origin c) m x) (changed (λ a. a) n x)
  one_changed (put_at at bytes) w k = put_related p c at (length bytes) (λ q. get_or bytes (q - at) 0) k
  one_changed (map_zero from to read write) w k = mapped_related p c from (to - from) read write w.0 w.1 k
  one_changed (give_rights from to read write) w k = rights_related p c from (to - from) read write k

  changes_related : (xs : List Change) (m n : Memory) → All IsWhole xs → MemoriesRelated p c m n → MemoriesRelated p c (all_changed (origin c) m xs) (all_changed (λ a. a) n xs)
  changes_related [] m n w k = k
  changes_related (x ∷ xs) m n w k = changes_related xs _ _ (All-tail IsWhole x xs w) (one_changed x (All-head IsWhole x xs w) k)

  -- ---- arguments
  held_related : (rs os : List Value) (ks : List ℕ) (n : ℕ) → RegsRelated p c rs os → ValuesRelated p c (get_or (map (reg rs) ks) n (plain 0)) (get_or (map (reg os) ks) n (plain 0))
  held_related rs os [] n g = plain_related p c 0
  held_related rs os (k ∷ ks) zero g = g k
  held_related rs os (k ∷ ks) (suc n) g = held_related rs os ks n g

  tags_same : (v w : Value) → ValuesRelated p c v w → is_link v.tag ≡ is_link w.tag
  tags_same v w (both_plain e f n) = ap is_link (e ∙ sym f)
  tags_same v w (both_links e f l) = ap is_link (e ∙ sym f)

  numbers_same : (v w : Value) → ValuesRelated p c v w → is_link v.tag ≡ false → v.number ≡ w.number
  numbers_same v w (both_plain e f n) t = n
  numbers_same v w (both_links e f l) t = absurd (true≢false (sym (ap is_link e) ∙ t))

  ask_alike : (rs os : List Value) → RegsRelated p c rs os → AskAlike (arguments_of rs) (arguments_of os)
  ask_alike rs os g = record {
    tags = λ k. tags_same _ _ (held_related rs os (range_with_len 10 8) (k - 10) g);
    numbers = λ k. numbers_same _ _ (held_related rs os (range_with_len 10 8) (k - 10) g);
  }

  both_harts : (P : Hart → Hart → Type 0) (x y v w : Hart) → v ≡ x → w ≡ y → P x y → P v w
  both_harts P x y v w e f k = subst (λ a. P a w) (sym e) (subst (P x) (sym f) k)

  -- what holds of the caller on both sides
  record AreCallers (x y : Hart) : Type 0 where
    harts : HartsRelated p c x y
    regs : RegsRelated p c x.regs y.regs
    follows : Follows p c x y
    place : origin c x.pc ≡ y.pc
    live : is_live y.status ≡ true

  callers_unreserved : (among : ℕ → Bool) (x y : Hart) → AreCallers x y → AreCallers (unreserved among x) (unreserved among y)
  callers_unreserved among x y k = record {
    harts = unreserved_related p c among x y k.harts;
    regs = k.regs;
    follows = k.follows;
    place = k.place;
    live = k.live;
  }

  module _ {h : ℕ} {hr ho : Hart} {r o : State} (k : IsAt p c h hr ho r o) (orderly : system.IsOrderly o.system) (live : is_live ho.status ≡ true) (f : Follows p c hr ho) where
    callers : AreCallers (hart_in r.harts h) (hart_in o.harts h)
    callers = both_harts AreCallers hr ho _ _ (hart_at r.harts h hr k.replaced) (hart_at o.harts h ho k.original)
        (record { harts = harts_of p c k; regs = k.regs; follows = f; place = k.place; live = live })

    module _ (d : Done) (fair : IsFair o.system h true d) (ten : is_end d.reply ≡ true → (reg (hart_in r.harts h).regs 10).number ≡ (reg (hart_in o.harts h).regs 10).number) where
      rs1 : List Hart
      rs1 = woken d.woken (written_in (ranges d.changes) r.harts)

      os1 : List Hart
      os1 = woken d.woken (written_in (ranges d.changes) o.harts)

      awoken : AreWoken h d.woken o.harts
      awoken = queue_woken h d o.harts o.system.waiting callers.live k.states.waiting fair.queue

      related_now : AreRelated rs1 os1
      unfolding rs1 os1
      related_now =
          woken_related d.woken (written_in (ranges d.changes) r.harts) (written_in (ranges d.changes) o.harts)
          (ranges_related p c (ranges d.changes) r.harts o.harts k.states.harts)
          (λ i x l. ap is_waiting (status_written_in (ranges d.changes) o.harts (get_or d.woken i x)) ∙ awoken.wait i x l) awoken.once

      left_is : hart_in rs1 h ≡ unreserved (is_in (ranges d.changes)) (hart_in r.harts h)
      unfolding rs1
      left_is = hart_woken d.woken (written_in (ranges d.changes) r.harts) h awoken.elsewhere ∙ hart_written (ranges d.changes) r.harts h

      right_is : hart_in os1 h ≡ unreserved (is_in (ranges d.changes)) (hart_in o.harts h)
      unfolding os1
      right_is = hart_woken d.woken (written_in (ranges d.changes) o.harts) h awoken.elsewhere ∙ hart_written (ranges d.changes) o.harts h

      callers_now : AreCallers (hart_in rs1 h) (hart_in os1 h)
      callers_now = both_harts AreCallers _ _ _ _ left_is right_is (callers_unreserved (is_in (ranges d.changes)) (hart_in r.harts h) (hart_in o.harts h) callers)

      ten_now : is_end d.reply ≡ true → (reg (hart_in rs1 h).regs 10).number ≡ (reg (hart_in os1 h).regs 10).number
      ten_now e =
          both_harts (λ x y. (reg x.regs 10).number ≡ (reg y.regs 10).number) _ _ _ _ left_is right_is (ten e)

      called_with : StatesRelated p c (called (origin c) h d r) (called (λ a. a) h d o)
      unfolding called rs1 os1
      called_with =
          let now = callers_now in
          let listed = queue_kept h d o.harts o.system.waiting callers.live k.states.waiting fair.queue in
          record {
            outcome = ends_same h rs1 os1 related_now now.harts now.regs now.follows now.place (ap is_live now.harts.status ∙ now.live) now.live d.reply ten_now;
            system = refl;
            memory = changes_related d.changes r.memory o.memory fair.changes k.states.memory;
            harts =
                listed_related d.state.waiting (replied h d.reply rs1) (replied h d.reply os1)
                (replied_related h rs1 os1 related_now now.harts now.regs now.follows d.reply) listed;
            waiting = now_waiting d.state.waiting (replied h d.reply os1) listed (queue_listed h d o.harts o.system.waiting callers.live k.states.waiting fair.queue);
          }

    -- both calls do the same
    call_same : call_of (origin c) h r ≡ call_of (λ a. a) h o
    unfolding call_of
    call_same =
        let s = k.states in
        let see = seen_same p c s.memory in
        let x = hart_in r.harts h in
        let y = hart_in o.harts h in
        (λ i. asked (see i) (s.memory.readable i) (s.memory.writable i) (s.system i) h (callers.harts.clear i) (arguments_of x.regs))
        ∙ asked_same (arguments_of x.regs) (arguments_of y.regs) (ask_alike x.regs y.regs callers.regs) (seen (λ a. a) o.memory) o.memory.readable o.memory.writable o.system h y.clear

    call_fair : IsFair o.system h true (call_of (λ a. a) h o)
    unfolding call_of
    call_fair = asked_fair o.system h orderly (seen (λ a. a) o.memory) o.memory.readable o.memory.writable (hart_in o.harts h).clear (arguments_of (hart_in o.harts h).regs)

    call_ends : is_end (call_of (λ a. a) h o).reply ≡ true → (reg (hart_in r.harts h).regs 10).number ≡ (reg (hart_in o.harts h).regs 10).number
    unfolding call_of
    call_ends e =
        let x = hart_in r.harts h in
        let y = hart_in o.harts h in
        let q = ask_alike x.regs y.regs callers.regs in
        let same = asked_same (arguments_of x.regs) (arguments_of y.regs) q (seen (λ a. a) o.memory) o.memory.readable o.memory.writable o.system h y.clear in
        ends_alike o.system h orderly (arguments_of x.regs) (arguments_of y.regs) q (seen (λ a. a) o.memory) o.memory.readable o.memory.writable y.clear
        (ap (λ (z : Done). is_end z.reply) same ∙ e)

    -- a call of related harts
    pub called_related : StatesRelated p c (called (origin c) h (call_of (origin c) h r) r) (called (λ a. a) h (call_of (λ a. a) h o) o)
    called_related =
        subst (λ d. StatesRelated p c (called (origin c) h d r) (called (λ a. a) h (call_of (λ a. a) h o) o)) (sym call_same)
        (called_with (call_of (λ a. a) h o) call_fair call_ends)
