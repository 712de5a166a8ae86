-- What holds of all that a call does: it maps whole pages, one call alone ends a hart, and what becomes of the waiting list.
use Rattle.std.proofs.Common.{◌≡◌, ℕ, ◌+◌, ◌-◌, ◌*◌, ◌%◌, ◌^◌, Bool, true, false, cond, List, [], ◌∷◌, ◌++◌, length, take, drop, min, refl, arith}
use Rattle.std.specs.Prelude.{Option, Some, None, ◌==◌, ◌||◌, ◌&&◌, not, nat_lt, nat_le, All, if◌then◌else◌}
use Rattle.std.specs.List.{list_all}
use Rattle.std.proofs.lemmas.Bool.{eqb-true}
use Rattle.std.proofs.lemmas.List.Elements.{All-nil, All-cons, All-map}
use Rattle.finite.specs.Maps.{Places, contains_all}
use Rattle.guest_sys.specs.Limits.{output_limit, hart_limit}
use Rattle.guest_sys.specs.declared.state.Waiter.{Waiter}
use Rattle.guest_sys.specs.declared.effect.Reply.{Reply}
use Rattle.guest_sys.specs.declared.effect.Reply.TheVariants as reply
use Rattle.guest_sys.specs.declared.service.Service.{Service}
use Rattle.guest_sys.specs.declared.service.Service.TheVariants as call
use Rattle.guest_sys.specs.declared.service.Operation.{Operation}
use Rattle.guest_sys.specs.declared.service.Operation.TheVariants as futex
use Rattle.link_tags.specs.declared.value.Value.{Value}
use Rattle.link_tags.specs.Values.{is_link}
use Rattle.guest_sys.specs.Services.{service_of, operation_of, arguments, held, number, first_link, link_read}
use Rattle.sim_laws.proofs.Asked.{AskAlike, IsOne, agree}
use Rattle.guest_sys.specs.State.{State, IsOrderly, pages}
use Rattle.guest_sys.specs.Waiting.{first_at, others, harts, requeued}
use Rattle.guest_sys.specs.Calls.{Change, put_at, map_zero, give_rights, done, fails, answers, output, added, all_readable, bytes_of_parts, parts, is_output, read, written, write_parts, write, writev, wait, wake, requeue, futex_call, break_changes, is_page, is_mapping, has, puts, tid_words, tid_bytes, tid, asked_for, is_thread, is_word, is_cleared, unless_link, brk, munmap, mmap, mprotect, clone, exit, served, asked}
use Rattle.guest_mem.specs.Memory.{number_of, bytes_from}
pub use Rattle.guest_sys.specs.Calls.{Done}

-- a change that cuts no word
abbrev pub IsWhole : Change → Type 0
IsWhole (put_at at bytes) = Unit {0}
IsWhole (map_zero from to read write) = (from % 8 ≡ 0) × ((to - from) % 8 ≡ 0)
IsWhole (give_rights from to read write) = Unit {0}

abbrev pub is_end : Reply → Bool
is_end reply.EndHart = true
is_end _ = false

abbrev pub is_wait : Reply → Bool
is_wait (reply.Wait at) = true
is_wait _ = false

-- what a call of hart h that does d makes of the waiting list
pub data Queued (before : List Waiter) (h : ℕ) (d : Done) : Type 0 where
  stays : is_wait d.reply ≡ false → d.woken ≡ [] → d.state.waiting ≡ before → Queued before h d
  joins : (at : ℕ) → d.reply ≡ reply.Wait at → d.woken ≡ [] → d.state.waiting ≡ before ++ (record { hart = h; at = at }) ∷ [] → Queued before h d
  wakes : (n a : ℕ) → is_wait d.reply ≡ false → d.woken ≡ harts (first_at n a before) → d.state.waiting ≡ others n a before → Queued before h d
  moves : (n a m b : ℕ) → is_wait d.reply ≡ false → d.woken ≡ harts (first_at n a before) → d.state.waiting ≡ requeued m a b (others n a before) → Queued before h d

-- exits: whether the call is the one that ends a hart
pub record IsFair (s : State) (h : ℕ) (exits : Bool) (d : Done) : Type 0 where
  pub changes : All IsWhole d.changes
  pub ends : is_end d.reply ≡ true → exits ≡ true
  pub queue : Queued s.waiting h d

-- ---- replies that neither end a hart nor let it wait
abbrev is_quiet : Reply → Bool
is_quiet (reply.Wait at) = false
is_quiet reply.EndHart = false
is_quiet _ = true

quiet_end : (r : Reply) → is_quiet r ≡ true → is_end r ≡ true → ⊥
quiet_end reply.EndHart e f = absurd (cc)
quiet_end r e f = absurd (cc)

quiet_wait : (r : Reply) → is_quiet r ≡ true → is_wait r ≡ false
quiet_wait (reply.Wait at) e = absurd (cc)
quiet_wait r e = refl

no_change : All IsWhole []
no_change = All-nil IsWhole

one_change : (c : Change) → IsWhole c → All IsWhole (c ∷ [])
one_change c w = All-cons IsWhole c [] w (All-nil IsWhole)

module _ (s : State) (h : ℕ) (exits : Bool) where
  quiet : (r : Reply) (cs : List Change) (t : State) → is_quiet r ≡ true → t.waiting ≡ s.waiting → All IsWhole cs → IsFair s h exits (done r cs t)
  quiet r cs t q e w = record { changes = w; ends = λ f. absurd (quiet_end r q f); queue = stays (quiet_wait r q) refl e }

  fail : (n : ℕ) → IsFair s h exits (fails s n)
  fail n = quiet (reply.Answer (2 ^ 64 - n)) [] s refl refl no_change

  answer : (n : ℕ) → IsFair s h exits (answers s n)
  answer n = quiet (reply.Answer n) [] s refl refl no_change

  fair_if : (b : Bool) (x y : Done) → IsFair s h exits x → IsFair s h exits y → IsFair s h exits (if b then x else y)
  fair_if true x y f g = f
  fair_if false x y f g = g

  -- where the second part may use what the test says
  fair_else : (b : Bool) (x y : Done) → IsFair s h exits x → (b ≡ false → IsFair s h exits y) → IsFair s h exits (if b then x else y)
  fair_else true x y f g = f
  fair_else false x y f g = g refl

  -- ---- input and output
  read_fair : (writable : Places) (fd at count : ℕ) → IsFair s h exits (read writable s fd at count)
  unfolding read
  read_fair writable fd at count =
      let k = min count (length s.input) in
      fair_if (not (fd == 0)) _ _ (fail 9) (fair_if (not (contains_all writable at k)) _ _ (fail 14)
      (quiet (reply.Answer k) (put_at at (take k s.input) ∷ []) (record s { input = drop k s.input }) refl refl (one_change (put_at at (take k s.input)) tt)))

  added_waiting : (b : Bool) (out err : List ℕ) → (if b then record s { out = out } else record s { err = err }).waiting ≡ s.waiting
  added_waiting true out err = refl
  added_waiting false out err = refl

  written_fair : (fd : ℕ) (bytes : List ℕ) → IsFair s h exits (written s fd bytes)
  written_fair fd bytes =
      fair_if (nat_lt output_limit (length (output s fd) + length bytes)) _ _ (quiet reply.OutputFull [] s refl refl no_change)
      (quiet (reply.Answer (length bytes)) [] (added s fd bytes) refl (added_waiting (fd == 1) (s.out ++ bytes) (s.err ++ bytes)) no_change)

  parts_fair : (see : ℕ → ℕ) (readable : Places) (fd : ℕ) (ps : List (ℕ × ℕ)) → IsFair s h exits (write_parts see readable s fd ps)
  unfolding write_parts
  parts_fair see readable fd ps = fair_if (not (all_readable readable ps)) _ _ (fail 14) (written_fair fd (bytes_of_parts see ps))

  write_fair : (see : ℕ → ℕ) (readable : Places) (fd at count : ℕ) → IsFair s h exits (write see readable s fd at count)
  unfolding write
  write_fair see readable fd at count = fair_if (not (is_output fd)) _ _ (fail 9) (parts_fair see readable fd ((at, count) ∷ []))

  writev_fair : (see : ℕ → ℕ) (readable : Places) (fd at count : ℕ) → IsFair s h exits (writev see readable s fd at count)
  unfolding writev
  writev_fair see readable fd at count =
      fair_if (not (is_output fd)) _ _ (fail 9) (fair_if (nat_lt 1024 count) _ _ (fail 22)
      (fair_if (not (contains_all readable at (16 * count))) _ _ (fail 14) (parts_fair see readable fd (parts see at count))))

  -- ---- waiting
  wait_fair : (see : ℕ → ℕ) (readable : Places) (at value timeout : ℕ) → IsFair s h exits (wait see readable s h at value timeout)
  unfolding wait
  wait_fair see readable at value timeout =
      fair_if (not (timeout == 0)) _ _ (fail 38) (fair_if (not (contains_all readable at 4)) _ _ (fail 14)
      (fair_if (not (number_of (bytes_from see at 4) == value % 2 ^ 32)) _ _ (fail 11)
      (record { changes = no_change; ends = λ e. absurd (cc); queue = joins at refl refl refl })))

  wake_fair : (at count : ℕ) → IsFair s h exits (wake s at count)
  unfolding wake
  wake_fair at count = record { changes = no_change; ends = λ e. absurd (cc); queue = wakes (count % 2 ^ 32) at refl refl refl }

  requeue_fair : (at count more to : ℕ) → IsFair s h exits (requeue s at count more to)
  unfolding requeue wake
  requeue_fair at count more to = record { changes = no_change; ends = λ e. absurd (cc); queue = moves (count % 2 ^ 32) at (more % 2 ^ 32) to refl refl refl }

  operation_fair : (see : ℕ → ℕ) (readable : Places) (at a2 a3 a4 : ℕ) (op : Operation) → IsFair s h exits (elim op [
    | futex.Other ↦ fails s 38
    | futex.Wait ↦ if not (at % 4 == 0) then fails s 22 else wait see readable s h at a2 a3
    | futex.Wake ↦ if not (at % 4 == 0) then fails s 22 else wake s at a2
    | futex.Requeue ↦ if not (at % 4 == 0) then fails s 22 else requeue s at a2 a3 a4
  ])
  operation_fair see readable at a2 a3 a4 futex.Other = fail 38
  operation_fair see readable at a2 a3 a4 futex.Wait = fair_if (not (at % 4 == 0)) _ _ (fail 22) (wait_fair see readable at a2 a3)
  operation_fair see readable at a2 a3 a4 futex.Wake = fair_if (not (at % 4 == 0)) _ _ (fail 22) (wake_fair at a2)
  operation_fair see readable at a2 a3 a4 futex.Requeue = fair_if (not (at % 4 == 0)) _ _ (fail 22) (requeue_fair at a2 a3 a4)

  futex_fair : (see : ℕ → ℕ) (readable : Places) (at flags a2 a3 a4 : ℕ) → IsFair s h exits (futex_call see readable s h at flags a2 a3 a4)
  unfolding futex_call
  futex_fair see readable at flags a2 a3 a4 = operation_fair see readable at a2 a3 a4 (operation_of flags)

  -- ---- memory
  pages_whole : (n m : ℕ) → (pages n % 8 ≡ 0) × ((pages m - pages n) % 8 ≡ 0)
  pages_whole n m = (omega arith, omega arith)

  breaks_whole : (n m : ℕ) → All IsWhole (break_changes (pages n) (pages m))
  breaks_whole n m = by_test (nat_lt (pages n) (pages m)) (nat_lt (pages m) (pages n))
    where
      by_test : (a b : Bool) → All IsWhole (if a then map_zero (pages n) (pages m) true true ∷ [] else (if b then map_zero (pages m) (pages n) false false ∷ [] else []))
      by_test true b = one_change (map_zero (pages n) (pages m) true true) (pages_whole n m)
      by_test false true = one_change (map_zero (pages m) (pages n) false false) (pages_whole m n)
      by_test false false = no_change

  brk_fair : (to : ℕ) → IsFair s h exits (brk s to)
  unfolding brk
  brk_fair to =
      fair_if (nat_le s.break_start to && nat_le to s.map_top) _ _
      (quiet (reply.Answer to) (break_changes (pages s.break_now) (pages to)) (record s { break_now = to }) refl refl (breaks_whole s.break_now to))
      (answer s.break_now)

  or_left : (a b : Bool) → (a || b) ≡ false → a ≡ false
  or_left true b e = absurd (cc)
  or_left false b e = refl

  not_not : (b : Bool) → not b ≡ false → b ≡ true
  not_not true e = refl
  not_not false e = absurd (cc)

  top_waiting : (b : Bool) (to : ℕ) → (if b then record s { map_top = to } else s).waiting ≡ s.waiting
  top_waiting true to = refl
  top_waiting false to = refl

  page_whole : (at len : ℕ) → at % 4096 ≡ 0 → (at % 8 ≡ 0) × ((at + pages len - at) % 8 ≡ 0)
  page_whole at len e = (omega (arith, e), omega arith)

  munmap_fair : (at len : ℕ) → IsFair s h exits (munmap s at len)
  unfolding munmap
  munmap_fair at len =
      let to = at + pages len in
      fair_else (not (is_page at) || len == 0 || not (is_mapping s at to)) _ _ (fail 22) (λ e.
      let paged = eqb-true (at % 4096) 0 (not_not (is_page at) (or_left (not (is_page at)) (len == 0) (or_left (not (is_page at) || len == 0) (not (is_mapping s at to)) e))) in
      quiet (reply.Answer 0) (map_zero at to false false ∷ []) (if at == s.map_top then record s { map_top = to } else s) refl (top_waiting (at == s.map_top) to)
      (one_change (map_zero at to false false) (page_whole at len paged)))

  top_whole : (top len : ℕ) → top % 4096 ≡ 0 → ((top - pages len) % 8 ≡ 0) × ((top - (top - pages len)) % 8 ≡ 0)
  top_whole top len e = (omega (arith, e), omega (arith, e))

  mmap_fair : IsOrderly s → (len rights flags : ℕ) → IsFair s h exits (mmap s len rights flags)
  unfolding mmap
  mmap_fair orderly len rights flags =
      let at = s.map_top - pages len in
      fair_if (len == 0 || not (has flags 0x20) || has flags 0x10) _ _ (fail 22) (fair_if (has rights 4) _ _ (fail 13)
      (fair_if (nat_lt s.map_top (pages s.break_now + pages len)) _ _ (fail 12)
      (quiet (reply.Answer at) (map_zero at s.map_top (has rights 1) (has rights 2) ∷ []) (record s { map_top = at }) refl refl
      (one_change (map_zero at s.map_top (has rights 1) (has rights 2)) (top_whole s.map_top len orderly.top_whole)))))

  rights_whole : (b : Bool) (from to : ℕ) (r w : Bool) → All IsWhole (if b then give_rights from to r w ∷ [] else [])
  rights_whole true from to r w = one_change (give_rights from to r w) tt
  rights_whole false from to r w = no_change

  mprotect_fair : (at len rights : ℕ) → IsFair s h exits (mprotect s at len rights)
  unfolding mprotect
  mprotect_fair at len rights =
      let to = at + pages len in
      fair_if (not (is_page at)) _ _ (fail 22) (fair_if (has rights 4) _ _ (fail 13)
      (quiet (reply.Answer 0) (if is_mapping s at to then give_rights at to (has rights 1) (has rights 2) ∷ [] else []) s refl refl
      (rights_whole (is_mapping s at to) at to (has rights 1) (has rights 2))))

  -- ---- threads
  puts_whole : (bytes words : List ℕ) → All IsWhole (puts bytes words)
  puts_whole bytes words = All-map IsWhole (λ (a : ℕ). put_at a bytes) words (λ k d l. tt)

  clone_fair : (writable : Places) (flags stack parent tls child : ℕ) → IsFair s h exits (clone writable s flags stack parent tls child)
  unfolding clone
  clone_fair writable flags stack parent tls child =
      let words = tid_words flags parent child in
      fair_if (not (is_thread flags) || stack == 0) _ _ (fail 22) (fair_if (not (list_all (is_word writable) words)) _ _ (fail 14)
      (fair_if (s.made == hart_limit) _ _ (quiet reply.HartsFull [] s refl refl no_change)
      (quiet (reply.Clone stack (asked_for flags 0x8_0000 tls) (if has flags 0x20_0000 then child else 0) (tid s.made)) (puts (tid_bytes s) words)
      (record s { made = s.made + 1 }) refl refl (puts_whole (tid_bytes s) words))))

module _ (s : State) (h : ℕ) where
  exit_fair : (writable : Places) (clear : ℕ) → IsFair s h true (exit writable s clear)
  unfolding exit
  exit_fair writable clear =
      fair_if s h true (is_cleared writable clear) _ _
      (record { changes = one_change (put_at clear (0 ∷ 0 ∷ 0 ∷ 0 ∷ [])) tt; ends = λ e. refl; queue = wakes 1 clear refl refl refl })
      (record { changes = no_change; ends = λ e. refl; queue = stays refl refl refl })

  -- ---- each call
  abbrev is_exit : Service → Bool
  is_exit call.Exit = true
  is_exit _ = false

  served_fair : IsOrderly s → (see : ℕ → ℕ) (readable writable : Places) (clear : ℕ) (v : Service) (a0 a1 a2 a3 a4 : ℕ)
      → IsFair s h (is_exit v) (served see readable writable s h clear v a0 a1 a2 a3 a4)
  served_fair orderly see readable writable clear call.Ioctl a0 a1 a2 a3 a4 = fail s h false 25
  served_fair orderly see readable writable clear call.Read a0 a1 a2 a3 a4 = read_fair s h false writable a0 a1 a2
  served_fair orderly see readable writable clear call.Write a0 a1 a2 a3 a4 = write_fair s h false see readable a0 a1 a2
  served_fair orderly see readable writable clear call.Writev a0 a1 a2 a3 a4 = writev_fair s h false see readable a0 a1 a2
  served_fair orderly see readable writable clear call.Exit a0 a1 a2 a3 a4 = exit_fair writable clear
  served_fair orderly see readable writable clear call.ExitGroup a0 a1 a2 a3 a4 = quiet s h false (reply.EndAll (a0 % 256)) [] s refl refl no_change
  served_fair orderly see readable writable clear call.SetTidAddress a0 a1 a2 a3 a4 = quiet s h false (reply.SetClear a0) [] s refl refl no_change
  served_fair orderly see readable writable clear call.Futex a0 a1 a2 a3 a4 = futex_fair s h false see readable a0 a1 a2 a3 a4
  served_fair orderly see readable writable clear call.SetRobustList a0 a1 a2 a3 a4 = answer s h false 0
  served_fair orderly see readable writable clear call.SchedYield a0 a1 a2 a3 a4 = answer s h false 0
  served_fair orderly see readable writable clear call.RtSigaction a0 a1 a2 a3 a4 = answer s h false 0
  served_fair orderly see readable writable clear call.RtSigprocmask a0 a1 a2 a3 a4 = answer s h false 0
  served_fair orderly see readable writable clear call.Getpid a0 a1 a2 a3 a4 = answer s h false 1
  served_fair orderly see readable writable clear call.Gettid a0 a1 a2 a3 a4 = answer s h false (tid h)
  served_fair orderly see readable writable clear call.Brk a0 a1 a2 a3 a4 = brk_fair s h false a0
  served_fair orderly see readable writable clear call.Munmap a0 a1 a2 a3 a4 = munmap_fair s h false a0 a1
  served_fair orderly see readable writable clear call.Clone a0 a1 a2 a3 a4 = clone_fair s h false writable a0 a1 a2 a3 a4
  served_fair orderly see readable writable clear call.Mmap a0 a1 a2 a3 a4 = mmap_fair s h false orderly a1 a2 a3
  served_fair orderly see readable writable clear call.Mprotect a0 a1 a2 a3 a4 = mprotect_fair s h false a0 a1 a2
  served_fair orderly see readable writable clear call.Unknown a0 a1 a2 a3 a4 = fail s h false 38

  unless_fair : (exits : Bool) (o : Option ℕ) (d : Done) → IsFair s h exits d → IsFair s h true (unless_link s o d)
  unless_fair exits None d f = record { changes = f.changes; ends = λ e. refl; queue = f.queue }
  unless_fair exits (Some k) d f = record { changes = no_change; ends = λ e. refl; queue = stays refl refl refl }

  pub asked_fair : IsOrderly s → (see : ℕ → ℕ) (readable writable : Places) (clear : ℕ) (regs : List Value) → IsFair s h true (asked see readable writable s h clear regs)
  unfolding asked
  asked_fair orderly see readable writable clear regs =
      let v = service_of (number regs 17) in
      unless_fair (is_exit v) (link_read regs) _
      (served_fair orderly see readable writable clear v (number regs 10) (number regs 11) (number regs 12) (number regs 13) (number regs 14))

  -- ---- a hart that ends
  module _ (orderly : IsOrderly s) (rs os : List Value) (q : AskAlike rs os) (see : ℕ → ℕ) (readable writable : Places) (clear : ℕ) where
    exit_reads : (v : Service) (n : ℕ) → is_exit v ≡ true → ((k : ℕ) → IsOne (arguments v n) k → number rs k ≡ number os k) → number rs 10 ≡ number os 10
    exit_reads call.Exit n e a = a 10 refl
    exit_reads v n e a = absurd (cc)

    ends_tested : (v : Service) (o : Option ℕ) → first_link rs (arguments v (number rs 11)) ≡ o
        → is_end (unless_link s o (served see readable writable s h clear v (number rs 10) (number rs 11) (number rs 12) (number rs 13) (number rs 14))).reply ≡ true
        → number rs 10 ≡ number os 10
    ends_tested v (Some k) t e = absurd (cc)
    ends_tested v None t e =
        exit_reads v (number rs 11)
        ((served_fair orderly see readable writable clear v (number rs 10) (number rs 11) (number rs 12) (number rs 13) (number rs 14)).ends e)
        (agree rs os q (arguments v (number rs 11)) t)

    ends_service : (b : Bool) → is_end (unless_link s (cond b (Some 17) (first_link rs (arguments (service_of (number rs 17)) (number rs 11))))
        (served see readable writable s h clear (service_of (number rs 17)) (number rs 10) (number rs 11) (number rs 12) (number rs 13) (number rs 14))).reply ≡ true
        → number rs 10 ≡ number os 10
    ends_service true e = absurd (cc)
    ends_service false e = ends_tested (service_of (number rs 17)) _ refl e

    -- where a hart ends both harts hold the same number in x10
    pub ends_alike : is_end (asked see readable writable s h clear rs).reply ≡ true → number rs 10 ≡ number os 10
    unfolding asked link_read
    ends_alike e = ends_service (is_link (held rs 17).tag) e
