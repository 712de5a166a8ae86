-- The system counts the harts that its replies make.
use Rattle.std.proofs.Common.{◌≡◌, ℕ, ◌+◌, ◌≤◌, Bool, true, false, List, [], ◌∷◌, ◌++◌, length, Option, Some, None, Ok, ap, sym, subst, refl, ◌∙◌, arith}
use Rattle.std.specs.Prelude.{◌==◌, ◌*◌, ◌^◌, ◌&&◌, ◌||◌, not, nat_le, nat_lt, min, ◌%◌, slice_set, if◌then◌else◌}
use Rattle.std.specs.List.{list_all}
use Rattle.std.proofs.lemmas.List.{length-set, length-map, length-append}
use Rattle.finite.specs.Maps.{Places, contains_all}
use Rattle.oc_base.specs.declared.range.Range.{Range}
use Rattle.link_tags.specs.declared.value.Value.{Value}
use Rattle.hart.specs.declared.hart.Hart.{Hart}
use Rattle.guest_sys.specs.declared.effect.Reply.{Reply}
use Rattle.guest_sys.specs.declared.effect.Reply.TheVariants as reply
use Rattle.guest_sys.specs.declared.effect.Effect.{Effect}
use Rattle.guest_mem.specs.Memory.{Memory, number_of, bytes_from}
use Rattle.guest_sys.specs.declared.service.Service.{Service}
use Rattle.guest_sys.specs.declared.service.Service.TheVariants as call
use Rattle.guest_sys.specs.declared.service.Operation.TheVariants as futex
use Rattle.guest_sys.specs.Limits.{output_limit, hart_limit}
use Rattle.guest_sys.specs.Services.{operation_of, link_read}
use Rattle.guest_sys.specs.State.{State, pages}
use Rattle.guest_sys.specs.Calls.{Done, fails, added, read, write_parts, write, writev, exit, wait, wake, requeue, futex_call, brk, munmap, mmap, mprotect, clone, served, unless_link, asked, Ends, bytes_of_parts, all_readable, output, is_output, is_cleared, is_page, is_mapping, has, is_thread, is_word, tid_words}
use Rattle.machine.specs.Harts.{unreserved, is_in, woken, written_in, replied, awake, hart_in}
use Rattle.machine.specs.Sharing.{HasRoom}

-- so many harts there are after a reply
abbrev pub MadeBy : Reply → (before after : ℕ) → Type 0
MadeBy (reply.Clone stack thread clear tid) before after = after ≡ before + 1
MadeBy _ before after = after ≡ before

pub record Counts (s : State) (d : Done) : Type 0 where
  pub made : MadeBy d.reply s.made d.state.made

either : (s : State) (b : Bool) (d e : Done) → Counts s d → Counts s e → Counts s (if b then d else e)
either s true d e x y = x
either s false d e x y = y

added_either : (s : State) (b : Bool) (bytes : List ℕ) → (if b then record s { out = s.out ++ bytes } else record s { err = s.err ++ bytes }).made ≡ s.made
added_either s true bytes = refl
added_either s false bytes = refl

added_made : (s : State) (fd : ℕ) (bytes : List ℕ) → (added s fd bytes).made ≡ s.made
added_made s fd bytes = added_either s (fd == 1) bytes

read_counts : (writable : Places) (s : State) (fd at count : ℕ) → Counts s (read writable s fd at count)
unfolding read
read_counts writable s fd at count = either s (not (fd == 0)) _ _ (record { made = refl }) (either s (not (contains_all writable at (min count (length s.input)))) _ _ (record { made = refl }) (record { made = refl }))

write_parts_counts : (see : ℕ → ℕ) (readable : Places) (s : State) (fd : ℕ) (ps : List (ℕ × ℕ)) → Counts s (write_parts see readable s fd ps)
unfolding write_parts
write_parts_counts see readable s fd ps = either s (not (all_readable readable ps)) _ _ (record { made = refl }) (either s (nat_lt output_limit (length (output s fd) + length (bytes_of_parts see ps))) _ _ (record { made = refl }) (record { made = added_made s fd (bytes_of_parts see ps) }))

write_counts : (see : ℕ → ℕ) (readable : Places) (s : State) (fd at count : ℕ) → Counts s (write see readable s fd at count)
unfolding write
write_counts see readable s fd at count = either s (not (is_output fd)) _ _ (record { made = refl }) (write_parts_counts see readable s fd _)

writev_counts : (see : ℕ → ℕ) (readable : Places) (s : State) (fd at count : ℕ) → Counts s (writev see readable s fd at count)
unfolding writev
writev_counts see readable s fd at count =
    either s (not (is_output fd)) _ _ (record { made = refl }) (either s (nat_lt 1024 count) _ _ (record { made = refl }) (either s (not (contains_all readable at (16 * count))) _ _ (record { made = refl }) (write_parts_counts see readable s fd _)))

exit_counts : (writable : Places) (s : State) (clear : ℕ) → Counts s (exit writable s clear)
unfolding exit
exit_counts writable s clear = either s (is_cleared writable clear) _ _ (record { made = refl }) (record { made = refl })

wait_counts : (see : ℕ → ℕ) (readable : Places) (s : State) (h at value timeout : ℕ) → Counts s (wait see readable s h at value timeout)
unfolding wait
wait_counts see readable s h at value timeout =
    either s (not (timeout == 0)) _ _ (record { made = refl }) (either s (not (contains_all readable at 4)) _ _ (record { made = refl }) (either s (not (number_of (bytes_from see at 4) == value % 2 ^ 32)) _ _ (record { made = refl }) (record { made = refl })))

wake_counts : (s : State) (at count : ℕ) → Counts s (wake s at count)
unfolding wake
wake_counts s at count = record { made = refl }

requeue_counts : (s : State) (at count more to : ℕ) → Counts s (requeue s at count more to)
unfolding requeue wake
requeue_counts s at count more to = record { made = refl }

futex_counts : (see : ℕ → ℕ) (readable : Places) (s : State) (h at flags a2 a3 a4 : ℕ) → Counts s (futex_call see readable s h at flags a2 a3 a4)
unfolding futex_call
futex_counts see readable s h at flags a2 a3 a4 = elim (operation_of flags) as (λ operation. Counts s (elim operation [
  | futex.Other ↦ fails s 38
  | futex.Wait ↦ if not (at % 4 == 0) then fails s 22 else wait see readable s h at a2 a3
  | futex.Wake ↦ if not (at % 4 == 0) then fails s 22 else wake s at a2
  | futex.Requeue ↦ if not (at % 4 == 0) then fails s 22 else requeue s at a2 a3 a4
])) [
  | futex.Other ↦ record { made = refl }
  | futex.Wait ↦ either s (not (at % 4 == 0)) _ _ (record { made = refl }) (wait_counts see readable s h at a2 a3)
  | futex.Wake ↦ either s (not (at % 4 == 0)) _ _ (record { made = refl }) (wake_counts s at a2)
  | futex.Requeue ↦ either s (not (at % 4 == 0)) _ _ (record { made = refl }) (requeue_counts s at a2 a3 a4)
]

brk_counts : (s : State) (to : ℕ) → Counts s (brk s to)
unfolding brk
brk_counts s to = either s (nat_le s.break_start to && nat_le to s.map_top) _ _ (record { made = refl }) (record { made = refl })

top_either : (s : State) (b : Bool) (to : ℕ) → (if b then record s { map_top = to } else s).made ≡ s.made
top_either s true to = refl
top_either s false to = refl

munmap_counts : (s : State) (at len : ℕ) → Counts s (munmap s at len)
unfolding munmap
munmap_counts s at len = either s (not (is_page at) || len == 0 || not (is_mapping s at (at + pages len))) _ _ (record { made = refl }) (record { made = top_either s (at == s.map_top) _ })

mmap_counts : (s : State) (len rights flags : ℕ) → Counts s (mmap s len rights flags)
unfolding mmap
mmap_counts s len rights flags =
    either s (len == 0 || not (has flags 0x20) || has flags 0x10) _ _ (record { made = refl }) (either s (has rights 4) _ _ (record { made = refl }) (either s (nat_lt s.map_top (pages s.break_now + pages len)) _ _ (record { made = refl }) (record { made = refl })))

mprotect_counts : (s : State) (at len rights : ℕ) → Counts s (mprotect s at len rights)
unfolding mprotect
mprotect_counts s at len rights = either s (not (is_page at)) _ _ (record { made = refl }) (either s (has rights 4) _ _ (record { made = refl }) (record { made = refl }))

clone_counts : (writable : Places) (s : State) (flags stack parent tls child : ℕ) → Counts s (clone writable s flags stack parent tls child)
unfolding clone
clone_counts writable s flags stack parent tls child =
    either s (not (is_thread flags) || stack == 0) _ _ (record { made = refl }) (either s (not (list_all (is_word writable) (tid_words flags parent child))) _ _ (record { made = refl }) (either s (s.made == hart_limit) _ _ (record { made = refl }) (record { made = refl })))

served_counts : (see : ℕ → ℕ) (readable writable : Places) (s : State) (h clear : ℕ) (service : Service) (a0 a1 a2 a3 a4 : ℕ) → Counts s (served see readable writable s h clear service a0 a1 a2 a3 a4)
served_counts see readable writable s h clear call.Ioctl a0 a1 a2 a3 a4 = record { made = refl }
served_counts see readable writable s h clear call.Read a0 a1 a2 a3 a4 = read_counts writable s a0 a1 a2
served_counts see readable writable s h clear call.Write a0 a1 a2 a3 a4 = write_counts see readable s a0 a1 a2
served_counts see readable writable s h clear call.Writev a0 a1 a2 a3 a4 = writev_counts see readable s a0 a1 a2
served_counts see readable writable s h clear call.Exit a0 a1 a2 a3 a4 = exit_counts writable s clear
served_counts see readable writable s h clear call.ExitGroup a0 a1 a2 a3 a4 = record { made = refl }
served_counts see readable writable s h clear call.SetTidAddress a0 a1 a2 a3 a4 = record { made = refl }
served_counts see readable writable s h clear call.Futex a0 a1 a2 a3 a4 = futex_counts see readable s h a0 a1 a2 a3 a4
served_counts see readable writable s h clear call.SetRobustList a0 a1 a2 a3 a4 = record { made = refl }
served_counts see readable writable s h clear call.SchedYield a0 a1 a2 a3 a4 = record { made = refl }
served_counts see readable writable s h clear call.RtSigaction a0 a1 a2 a3 a4 = record { made = refl }
served_counts see readable writable s h clear call.RtSigprocmask a0 a1 a2 a3 a4 = record { made = refl }
served_counts see readable writable s h clear call.Getpid a0 a1 a2 a3 a4 = record { made = refl }
served_counts see readable writable s h clear call.Gettid a0 a1 a2 a3 a4 = record { made = refl }
served_counts see readable writable s h clear call.Brk a0 a1 a2 a3 a4 = brk_counts s a0
served_counts see readable writable s h clear call.Munmap a0 a1 a2 a3 a4 = munmap_counts s a0 a1
served_counts see readable writable s h clear call.Clone a0 a1 a2 a3 a4 = clone_counts writable s a0 a1 a2 a3 a4
served_counts see readable writable s h clear call.Mmap a0 a1 a2 a3 a4 = mmap_counts s a1 a2 a3
served_counts see readable writable s h clear call.Mprotect a0 a1 a2 a3 a4 = mprotect_counts s a0 a1 a2
served_counts see readable writable s h clear call.Unknown a0 a1 a2 a3 a4 = record { made = refl }

unless_counts : (s : State) (link : Option ℕ) (d : Done) → Counts s d → Counts s (unless_link s link d)
unless_counts s None d counts = counts
unless_counts s (Some k) d counts = record { made = refl }

pub asked_counts : (see : ℕ → ℕ) (readable writable : Places) (s : State) (h clear : ℕ) (regs : List Value) → Counts s (asked see readable writable s h clear regs)
unfolding asked
asked_counts see readable writable s h clear regs = unless_counts s (link_read regs) _ (served_counts see readable writable s h clear _ _ _ _ _ _)

-- ---- the harts are as many
woken_length : (ks : List ℕ) (hs : List Hart) → length (woken ks hs) ≡ length hs
woken_length [] hs = refl
woken_length (k ∷ ks) hs = woken_length ks _ ∙ length-set hs k (awake (hart_in hs k))

pub shared_length : (ks : List ℕ) (ranges : List Range) (hs : List Hart) → length (woken ks (written_in ranges hs)) ≡ length hs
unfolding written_in
shared_length ks ranges hs = woken_length ks (written_in ranges hs) ∙ length-map hs (unreserved (is_in ranges))

pub replied_length : (h : ℕ) (r : Reply) (hs : List Hart) (before after : ℕ) → MadeBy r before after → length hs ≡ before → length (replied h r hs) ≡ after
unfolding replied
replied_length h (reply.Answer value) hs before after made same = length-set hs h _ ∙ same ∙ sym made
replied_length h (reply.Wait at) hs before after made same = length-set hs h _ ∙ same ∙ sym made
replied_length h reply.EndHart hs before after made same = length-set hs h _ ∙ same ∙ sym made
replied_length h (reply.EndAll code) hs before after made same = same ∙ sym made
replied_length h (reply.Clone stack thread clear tid) hs before after made same =
    length-append (slice_set hs h _) _ ∙ ap (λ n. n + 1) (length-set hs h _ ∙ same) ∙ sym made
replied_length h (reply.SetClear clear) hs before after made same = length-set hs h _ ∙ same ∙ sym made
replied_length h (reply.LinkUse k) hs before after made same = same ∙ sym made
replied_length h reply.OutputFull hs before after made same = same ∙ sym made
replied_length h reply.HartsFull hs before after made same = same ∙ sym made

pub has_room : (r : Reply) (before after n : ℕ) → MadeBy r before after → after ≤ hart_limit → n ≡ before → HasRoom r n
has_room (reply.Clone stack thread clear tid) before after n made few same = omega (arith, made, few, same)
has_room (reply.Answer value) before after n made few same = tt
has_room (reply.Wait at) before after n made few same = tt
has_room reply.EndHart before after n made few same = tt
has_room (reply.EndAll code) before after n made few same = tt
has_room (reply.SetClear clear) before after n made few same = tt
has_room (reply.LinkUse k) before after n made few same = tt
has_room reply.OutputFull before after n made few same = tt
has_room reply.HartsFull before after n made few same = tt

-- a call that was made
pub call_makes : (origin see : ℕ → ℕ) (readable writable : Places) (s s' : State) (m m' : Memory) (h clear : ℕ) (regs : List Value) (effect : Effect)
    → Ends origin (asked see readable writable s h clear regs) s s' m m' (Ok effect) → MadeBy effect.reply s.made s'.made
call_makes origin see readable writable s s' m m' h clear regs effect ends =
    let d = asked see readable writable s h clear regs in
    subst (λ (e : Effect). MadeBy e.reply s.made s'.made) (sym ends.0)
    (subst (λ (t : State). MadeBy d.reply s.made t.made) (sym ends.1) (asked_counts see readable writable s h clear regs).made)
