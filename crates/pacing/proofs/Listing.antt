-- No call puts a hart on the list of waiting harts but the one that makes it.
use Rattle.std.proofs.Common.{◌≡◌, ◌≢◌, ℕ, zero, suc, ◌+◌, ◌*◌, Bool, true, false, List, [], ◌∷◌, ◌++◌, refl, sym, subst}
use Rattle.std.specs.Prelude.{Option, Some, None, ◌==◌, ◌&&◌, not, nat_lt, nat_le, All, length, min, ◌%◌, ◌^◌, ◌||◌, filter, if◌then◌else◌}
use Rattle.std.specs.List.{list_all}
use Rattle.std.proofs.lemmas.List.Elements.{All-cons, All-head, All-tail, All-append, All-push, All-map, All-take, All-filter}
use Rattle.finite.specs.Maps.{Places, contains_all}
use Rattle.guest_mem.specs.Memory.{number_of, bytes_from}
use Rattle.link_tags.specs.declared.value.Value.{Value}
use Rattle.guest_sys.specs.declared.state.Waiter.{Waiter}
use Rattle.guest_sys.specs.declared.service.Service.{Service}
use Rattle.guest_sys.specs.declared.service.Service.TheVariants as call
use Rattle.guest_sys.specs.declared.service.Operation.{Operation}
use Rattle.guest_sys.specs.declared.service.Operation.TheVariants as futex
use Rattle.guest_sys.specs.Limits.{output_limit, hart_limit}
use Rattle.guest_sys.specs.Services.{service_of, operation_of, number, link_read}
use Rattle.guest_sys.specs.State.{State, pages}
use Rattle.guest_sys.specs.Waiting.{waits_at, first_at, others, sent_to, requeued}
use Rattle.guest_sys.specs.Calls.{Done, fails, output, all_readable, parts, is_output, read, written, write_parts, write, writev, exit, wait, wake, requeue, futex_call, brk, is_page, is_mapping, munmap, has, mmap, mprotect, is_thread, is_word, is_cleared, tid_words, clone, served, unless_link, asked, bytes_of_parts}
use Rattle.machine.specs.States as whole
use Rattle.machine.specs.Steps.{call_of}

module _ (k : ℕ) where
  -- hart k isn't on the list
  abbrev pub IsOff : List Waiter → Type 0
  IsOff ws = All (λ (w : Waiter). w.hart ≢ k) ws

  others_off : (n a : ℕ) (ws : List Waiter) → IsOff ws → IsOff (others n a ws)
  others_off n a [] off = off
  others_off zero a (w ∷ ws) off = off
  others_off (suc n) a (w ∷ ws) off =
      let rest = All-tail (λ (v : Waiter). v.hart ≢ k) w ws off in
      by_test (waits_at a w) (others_off n a ws rest)
      (All-cons (λ (v : Waiter). v.hart ≢ k) w (others (suc n) a ws) (All-head (λ (v : Waiter). v.hart ≢ k) w ws off) (others_off (suc n) a ws rest))
    where
      by_test : (b : Bool) → IsOff (others n a ws) → IsOff (w ∷ others (suc n) a ws) → IsOff (if b then others n a ws else w ∷ others (suc n) a ws)
      by_test true taken left = taken
      by_test false taken left = left

  requeued_off : (m a b : ℕ) (ws : List Waiter) → IsOff ws → IsOff (requeued m a b ws)
  requeued_off m a b ws off =
      let P : Waiter → Type 0 = λ w. w.hart ≢ k in
      All-append P (others m a ws) (sent_to b (first_at m a ws)) (others_off m a ws off)
      (All-map P (λ (w : Waiter). record { hart = w.hart; at = b }) (first_at m a ws) (All-take P m (filter (waits_at a) ws) (All-filter (waits_at a) P ws off)))

module _ (s : State) (h k : ℕ) (apart : h ≢ k) (off : IsOff k s.waiting) where
  abbrev LeavesOff : Done → Type 0
  LeavesOff d = IsOff k d.state.waiting

  off_if : (b : Bool) (x y : Done) → LeavesOff x → LeavesOff y → LeavesOff (if b then x else y)
  off_if true x y p q = p
  off_if false x y p q = q

  either : (b : Bool) (x y : State) → x.waiting ≡ s.waiting → y.waiting ≡ s.waiting → IsOff k (if b then x else y).waiting
  either true x y p q = subst (IsOff k) (sym p) off
  either false x y p q = subst (IsOff k) (sym q) off

  -- ---- input and output
  read_off : (writable : Places) (fd at count : ℕ) → LeavesOff (read writable s fd at count)
  unfolding read
  read_off writable fd at count =
      off_if (not (fd == 0)) _ _ off (off_if (not (contains_all writable at (min count (length s.input)))) _ _ off off)

  written_off : (fd : ℕ) (bytes : List ℕ) → LeavesOff (written s fd bytes)
  written_off fd bytes =
      off_if (nat_lt output_limit (length (output s fd) + length bytes)) _ _ off
      (either (fd == 1) (record s { out = s.out ++ bytes }) (record s { err = s.err ++ bytes }) refl refl)

  parts_off : (see : ℕ → ℕ) (readable : Places) (fd : ℕ) (ps : List (ℕ × ℕ)) → LeavesOff (write_parts see readable s fd ps)
  unfolding write_parts
  parts_off see readable fd ps = off_if (not (all_readable readable ps)) _ _ off (written_off fd (bytes_of_parts see ps))

  write_off : (see : ℕ → ℕ) (readable : Places) (fd at count : ℕ) → LeavesOff (write see readable s fd at count)
  unfolding write
  write_off see readable fd at count = off_if (not (is_output fd)) _ _ off (parts_off see readable fd ((at, count) ∷ []))

  writev_off : (see : ℕ → ℕ) (readable : Places) (fd at count : ℕ) → LeavesOff (writev see readable s fd at count)
  unfolding writev
  writev_off see readable fd at count =
      off_if (not (is_output fd)) _ _ off (off_if (nat_lt 1024 count) _ _ off
      (off_if (not (contains_all readable at (16 * count))) _ _ off (parts_off see readable fd (parts see at count))))

  -- ---- waiting
  exit_off : (writable : Places) (clear : ℕ) → LeavesOff (exit writable s clear)
  unfolding exit
  exit_off writable clear = off_if (is_cleared writable clear) _ _ (others_off k 1 clear s.waiting off) off

  wait_off : (see : ℕ → ℕ) (readable : Places) (at value timeout : ℕ) → LeavesOff (wait see readable s h at value timeout)
  unfolding wait
  wait_off see readable at value timeout =
      off_if (not (timeout == 0)) _ _ off (off_if (not (contains_all readable at 4)) _ _ off
      (off_if (not (number_of (bytes_from see at 4) == value % 2 ^ 32)) _ _ off
      (All-push (λ (w : Waiter). w.hart ≢ k) s.waiting (record { hart = h; at = at }) off apart)))

  wake_off : (at count : ℕ) → LeavesOff (wake s at count)
  unfolding wake
  wake_off at count = others_off k (count % 2 ^ 32) at s.waiting off

  requeue_off : (at count more to : ℕ) → LeavesOff (requeue s at count more to)
  unfolding requeue wake
  requeue_off at count more to = requeued_off k (more % 2 ^ 32) at to (others (count % 2 ^ 32) at s.waiting) (others_off k (count % 2 ^ 32) at s.waiting off)

  operation_off : (see : ℕ → ℕ) (readable : Places) (at a2 a3 a4 : ℕ) (op : Operation) → LeavesOff (elim op [
    | futex.Other ↦ fails s 38
    | futex.Wait ↦ if not (at % 4 == 0) then fails s 22 else wait see readable s h at a2 a3
    | futex.Wake ↦ if not (at % 4 == 0) then fails s 22 else wake s at a2
    | futex.Requeue ↦ if not (at % 4 == 0) then fails s 22 else requeue s at a2 a3 a4
  ])
  operation_off see readable at a2 a3 a4 futex.Other = off
  operation_off see readable at a2 a3 a4 futex.Wait = off_if (not (at % 4 == 0)) _ _ off (wait_off see readable at a2 a3)
  operation_off see readable at a2 a3 a4 futex.Wake = off_if (not (at % 4 == 0)) _ _ off (wake_off at a2)
  operation_off see readable at a2 a3 a4 futex.Requeue = off_if (not (at % 4 == 0)) _ _ off (requeue_off at a2 a3 a4)

  futex_off : (see : ℕ → ℕ) (readable : Places) (at flags a2 a3 a4 : ℕ) → LeavesOff (futex_call see readable s h at flags a2 a3 a4)
  unfolding futex_call
  futex_off see readable at flags a2 a3 a4 = operation_off see readable at a2 a3 a4 (operation_of flags)

  -- ---- memory and threads
  brk_off : (to : ℕ) → LeavesOff (brk s to)
  unfolding brk
  brk_off to = off_if (nat_le s.break_start to && nat_le to s.map_top) _ _ off off

  munmap_off : (at len : ℕ) → LeavesOff (munmap s at len)
  unfolding munmap
  munmap_off at len =
      let to = at + pages len in
      off_if (not (is_page at) || len == 0 || not (is_mapping s at to)) _ _ off (either (at == s.map_top) (record s { map_top = to }) s refl refl)

  mmap_off : (len rights flags : ℕ) → LeavesOff (mmap s len rights flags)
  unfolding mmap
  mmap_off len rights flags =
      off_if (len == 0 || not (has flags 0x20) || has flags 0x10) _ _ off (off_if (has rights 4) _ _ off
      (off_if (nat_lt s.map_top (pages s.break_now + pages len)) _ _ off off))

  mprotect_off : (at len rights : ℕ) → LeavesOff (mprotect s at len rights)
  unfolding mprotect
  mprotect_off at len rights = off_if (not (is_page at)) _ _ off (off_if (has rights 4) _ _ off off)

  clone_off : (writable : Places) (flags stack parent tls child : ℕ) → LeavesOff (clone writable s flags stack parent tls child)
  unfolding clone
  clone_off writable flags stack parent tls child =
      off_if (not (is_thread flags) || stack == 0) _ _ off (off_if (not (list_all (is_word writable) (tid_words flags parent child))) _ _ off
      (off_if (s.made == hart_limit) _ _ off off))

  -- ---- each call
  served_off : (see : ℕ → ℕ) (readable writable : Places) (clear : ℕ) (v : Service) (a0 a1 a2 a3 a4 : ℕ)
      → LeavesOff (served see readable writable s h clear v a0 a1 a2 a3 a4)
  served_off see readable writable clear call.Ioctl a0 a1 a2 a3 a4 = off
  served_off see readable writable clear call.Read a0 a1 a2 a3 a4 = read_off writable a0 a1 a2
  served_off see readable writable clear call.Write a0 a1 a2 a3 a4 = write_off see readable a0 a1 a2
  served_off see readable writable clear call.Writev a0 a1 a2 a3 a4 = writev_off see readable a0 a1 a2
  served_off see readable writable clear call.Exit a0 a1 a2 a3 a4 = exit_off writable clear
  served_off see readable writable clear call.ExitGroup a0 a1 a2 a3 a4 = off
  served_off see readable writable clear call.SetTidAddress a0 a1 a2 a3 a4 = off
  served_off see readable writable clear call.Futex a0 a1 a2 a3 a4 = futex_off see readable a0 a1 a2 a3 a4
  served_off see readable writable clear call.SetRobustList a0 a1 a2 a3 a4 = off
  served_off see readable writable clear call.SchedYield a0 a1 a2 a3 a4 = off
  served_off see readable writable clear call.RtSigaction a0 a1 a2 a3 a4 = off
  served_off see readable writable clear call.RtSigprocmask a0 a1 a2 a3 a4 = off
  served_off see readable writable clear call.Getpid a0 a1 a2 a3 a4 = off
  served_off see readable writable clear call.Gettid a0 a1 a2 a3 a4 = off
  served_off see readable writable clear call.Brk a0 a1 a2 a3 a4 = brk_off a0
  served_off see readable writable clear call.Munmap a0 a1 a2 a3 a4 = munmap_off a0 a1
  served_off see readable writable clear call.Clone a0 a1 a2 a3 a4 = clone_off writable a0 a1 a2 a3 a4
  served_off see readable writable clear call.Mmap a0 a1 a2 a3 a4 = mmap_off a1 a2 a3
  served_off see readable writable clear call.Mprotect a0 a1 a2 a3 a4 = mprotect_off a0 a1 a2
  served_off see readable writable clear call.Unknown a0 a1 a2 a3 a4 = off

  unless_off : (link : Option ℕ) (d : Done) → LeavesOff d → LeavesOff (unless_link s link d)
  unless_off None d p = p
  unless_off (Some j) d p = off

  asked_off : (see : ℕ → ℕ) (readable writable : Places) (clear : ℕ) (regs : List Value) → LeavesOff (asked see readable writable s h clear regs)
  unfolding asked
  asked_off see readable writable clear regs =
      unless_off (link_read regs) _
      (served_off see readable writable clear (service_of (number regs 17)) (number regs 10) (number regs 11) (number regs 12) (number regs 13) (number regs 14))

pub call_off : (origin : ℕ → ℕ) (h k : ℕ) (s : whole.State) → h ≢ k → IsOff k s.system.waiting → IsOff k (call_of origin h s).state.waiting
unfolding call_of
call_off origin h k s apart off = asked_off s.system h k apart off _ _ _ _ _
