-- The system stays orderly, whatever a step does.
use Rattle.std.proofs.Common.{◌≡◌, ℕ, zero, suc, ◌+◌, ◌-◌, ◌*◌, ◌%◌, ◌^◌, ◌≤◌, Bool, true, false, List, [], ◌∷◌, ◌++◌, length, drop, min, map, refl, sym, subst, arith}
use Rattle.std.specs.Prelude.{Option, Some, None, ◌==◌, ◌||◌, ◌&&◌, not, is_some, nat_lt, nat_le, All, if◌then◌else◌}
use Rattle.std.specs.List.{list_all}
use Rattle.std.proofs.lemmas.Bool.{eqb-true, eqb-false, leb-true, ltb-true, ltb-false, and_parts, or_parts}
use Rattle.std.proofs.lemmas.List.{length-append}
use Rattle.finite.specs.Maps.{Places, contains_all}
use Rattle.std.proofs.lemmas.List.Elements.{All-tail, All-map}
use Rattle.image.specs.Picture.{Picture, IsKept}
use Rattle.image.specs.Texts.{text_end, word_at}
use Rattle.image.specs.Aims.{part_end}
use Rattle.machine.specs.Start.{highest, start_of}
use Rattle.link_tags.specs.declared.value.Value.{Value}
use Rattle.guest_mem.specs.Memory.{number_of, bytes_from}
use Rattle.guest_sys.specs.Limits.{map_end, output_limit, hart_limit}
use Rattle.guest_sys.specs.declared.state.Waiter.{Waiter}
use Rattle.guest_sys.specs.declared.service.Service.{Service}
use Rattle.guest_sys.specs.declared.service.Service.TheVariants as call
use Rattle.guest_sys.specs.declared.service.Operation.{Operation}
use Rattle.guest_sys.specs.declared.service.Operation.TheVariants as futex
use Rattle.guest_sys.specs.Services.{service_of, operation_of, number, link_read}
use Rattle.guest_sys.specs.State.{State, IsOrderly, pages}
use Rattle.guest_sys.specs.Waiting.{others, requeued}
use Rattle.guest_sys.specs.Calls.{Done, fails, output, all_readable, bytes_of_parts, parts, is_output, read, written, write_parts, write, writev, wait, wake, requeue, futex_call, is_page, is_mapping, has, tid_words, is_thread, is_word, is_cleared, unless_link, brk, munmap, mmap, mprotect, clone, exit, served, asked}
use Rattle.hart.specs.declared.act.Acted.{Acted}
use Rattle.hart.specs.declared.act.Acted.TheVariants as acted
use Rattle.hart.specs.Effects.{Effect, answer_of}
use Rattle.layout.specs.Points.{Code}
use Rattle.rv_isa.specs.Decoded.{decoded}
use Rattle.rv_isa.specs.declared.instr.Instr.{Instr}
use Rattle.machine.specs.declared.outcome.Outcome.{Outcome}
use Rattle.machine.specs.declared.outcome.Outcome.TheVariants.{Stalled}
use Rattle.machine.specs.Harts.{is_stalled}
use Rattle.machine.specs.States as machine
use Rattle.machine.specs.Steps.{ended, jumped_unless, call_of, called, by_answer, after_effect, on_instr, on_fetched, settled, can_step, step_with, original_step}
use Rattle.sim_laws.specs.Origins.{origin}
use Rattle.sim_laws.specs.Steps.{replaced_step, stepped, is_layout, until_real}

not_not : (b : Bool) → not b ≡ false → b ≡ true
not_not true e = refl
not_not false e = absurd (cc)

-- a choice, where each side may use what the test says
either : (b : Bool) (x y : Done) → (b ≡ true → IsOrderly x.state) → (b ≡ false → IsOrderly y.state) → IsOrderly (if b then x else y).state
either true x y f g = f refl
either false x y f g = g refl

module _ (s : State) (k : IsOrderly s) where
  with_input : (input : List ℕ) → IsOrderly (record s { input = input })
  with_input input = record {
    start_whole = k.start_whole;
    top_whole = k.top_whole;
    past_start = k.past_start;
    below_top = k.below_top;
    below_end = k.below_end;
    out_short = k.out_short;
    err_short = k.err_short;
    some_made = k.some_made;
    few_made = k.few_made;
  }

  with_waiting : (waiting : List Waiter) → IsOrderly (record s { waiting = waiting })
  with_waiting waiting = record {
    start_whole = k.start_whole;
    top_whole = k.top_whole;
    past_start = k.past_start;
    below_top = k.below_top;
    below_end = k.below_end;
    out_short = k.out_short;
    err_short = k.err_short;
    some_made = k.some_made;
    few_made = k.few_made;
  }

  with_out : (out : List ℕ) → length out ≤ output_limit → IsOrderly (record s { out = out })
  with_out out short = record {
    start_whole = k.start_whole;
    top_whole = k.top_whole;
    past_start = k.past_start;
    below_top = k.below_top;
    below_end = k.below_end;
    out_short = short;
    err_short = k.err_short;
    some_made = k.some_made;
    few_made = k.few_made;
  }

  with_err : (err : List ℕ) → length err ≤ output_limit → IsOrderly (record s { err = err })
  with_err err short = record {
    start_whole = k.start_whole;
    top_whole = k.top_whole;
    past_start = k.past_start;
    below_top = k.below_top;
    below_end = k.below_end;
    out_short = k.out_short;
    err_short = short;
    some_made = k.some_made;
    few_made = k.few_made;
  }

  with_break : (to : ℕ) → s.break_start ≤ to → to ≤ s.map_top → IsOrderly (record s { break_now = to })
  with_break to low high =
      let whole = k.top_whole in
      record {
        start_whole = k.start_whole;
        top_whole = k.top_whole;
        past_start = low;
        below_top = omega (arith, high, whole);
        below_end = k.below_end;
        out_short = k.out_short;
        err_short = k.err_short;
        some_made = k.some_made;
        few_made = k.few_made;
      }

  with_top : (to : ℕ) → to % 4096 ≡ 0 → pages s.break_now ≤ to → to ≤ map_end → IsOrderly (record s { map_top = to })
  with_top to whole low high = record {
    start_whole = k.start_whole;
    top_whole = whole;
    past_start = k.past_start;
    below_top = low;
    below_end = high;
    out_short = k.out_short;
    err_short = k.err_short;
    some_made = k.some_made;
    few_made = k.few_made;
  }

  with_made : s.made + 1 ≤ hart_limit → IsOrderly (record s { made = s.made + 1 })
  with_made few = record {
    start_whole = k.start_whole;
    top_whole = k.top_whole;
    past_start = k.past_start;
    below_top = k.below_top;
    below_end = k.below_end;
    out_short = k.out_short;
    err_short = k.err_short;
    some_made = omega arith;
    few_made = few;
  }

  -- ---- input and output
  read_orderly : (writable : Places) (fd at count : ℕ) → IsOrderly (read writable s fd at count).state
  unfolding read
  read_orderly writable fd at count =
      either (not (fd == 0)) _ _ (λ _. k) (λ _. either (not (contains_all writable at (min count (length s.input)))) _ _ (λ _. k) (λ _. with_input (drop (min count (length s.input)) s.input)))

  added_orderly : (b : Bool) (bytes : List ℕ) → length (if b then s.out else s.err) + length bytes ≤ output_limit → IsOrderly (if b then record s { out = s.out ++ bytes } else record s { err = s.err ++ bytes })
  added_orderly true bytes short = with_out (s.out ++ bytes) (subst (λ n. n ≤ output_limit) (sym (length-append s.out bytes)) short)
  added_orderly false bytes short = with_err (s.err ++ bytes) (subst (λ n. n ≤ output_limit) (sym (length-append s.err bytes)) short)

  written_orderly : (fd : ℕ) (bytes : List ℕ) → IsOrderly (written s fd bytes).state
  written_orderly fd bytes =
      either (nat_lt output_limit (length (output s fd) + length bytes)) _ _ (λ _. k) (λ e. added_orderly (fd == 1) bytes (ltb-false output_limit (length (output s fd) + length bytes) e))

  parts_orderly : (see : ℕ → ℕ) (readable : Places) (fd : ℕ) (ps : List (ℕ × ℕ)) → IsOrderly (write_parts see readable s fd ps).state
  unfolding write_parts
  parts_orderly see readable fd ps = either (not (all_readable readable ps)) _ _ (λ _. k) (λ _. written_orderly fd (bytes_of_parts see ps))

  write_orderly : (see : ℕ → ℕ) (readable : Places) (fd at count : ℕ) → IsOrderly (write see readable s fd at count).state
  unfolding write
  write_orderly see readable fd at count = either (not (is_output fd)) _ _ (λ _. k) (λ _. parts_orderly see readable fd ((at, count) ∷ []))

  writev_orderly : (see : ℕ → ℕ) (readable : Places) (fd at count : ℕ) → IsOrderly (writev see readable s fd at count).state
  unfolding writev
  writev_orderly see readable fd at count =
      either (not (is_output fd)) _ _ (λ _. k) (λ _. either (nat_lt 1024 count) _ _ (λ _. k)
      (λ _. either (not (contains_all readable at (16 * count))) _ _ (λ _. k) (λ _. parts_orderly see readable fd (parts see at count))))

  -- ---- waiting
  exit_orderly : (writable : Places) (clear : ℕ) → IsOrderly (exit writable s clear).state
  unfolding exit
  exit_orderly writable clear = either (is_cleared writable clear) _ _ (λ _. with_waiting (others 1 clear s.waiting)) (λ _. k)

  wait_orderly : (see : ℕ → ℕ) (readable : Places) (h at value timeout : ℕ) → IsOrderly (wait see readable s h at value timeout).state
  unfolding wait
  wait_orderly see readable h at value timeout =
      either (not (timeout == 0)) _ _ (λ _. k) (λ _. either (not (contains_all readable at 4)) _ _ (λ _. k)
      (λ _. either (not (number_of (bytes_from see at 4) == value % 2 ^ 32)) _ _ (λ _. k) (λ _. with_waiting (s.waiting ++ (record { hart = h; at = at }) ∷ []))))

  wake_orderly : (at count : ℕ) → IsOrderly (wake s at count).state
  unfolding wake
  wake_orderly at count = with_waiting (others (count % 2 ^ 32) at s.waiting)

  requeue_orderly : (at count more to : ℕ) → IsOrderly (requeue s at count more to).state
  unfolding requeue wake
  requeue_orderly at count more to = with_waiting (requeued (more % 2 ^ 32) at to (others (count % 2 ^ 32) at s.waiting))

  operation_orderly : (see : ℕ → ℕ) (readable : Places) (h at a2 a3 a4 : ℕ) (op : Operation) → IsOrderly (elim op as (λ _. Done) [
    | futex.Other ↦ fails s 38
    | futex.Wait ↦ if not (at % 4 == 0) then fails s 22 else wait see readable s h at a2 a3
    | futex.Wake ↦ if not (at % 4 == 0) then fails s 22 else wake s at a2
    | futex.Requeue ↦ if not (at % 4 == 0) then fails s 22 else requeue s at a2 a3 a4
  ]).state
  operation_orderly see readable h at a2 a3 a4 futex.Other = k
  operation_orderly see readable h at a2 a3 a4 futex.Wait = either (not (at % 4 == 0)) _ _ (λ _. k) (λ _. wait_orderly see readable h at a2 a3)
  operation_orderly see readable h at a2 a3 a4 futex.Wake = either (not (at % 4 == 0)) _ _ (λ _. k) (λ _. wake_orderly at a2)
  operation_orderly see readable h at a2 a3 a4 futex.Requeue = either (not (at % 4 == 0)) _ _ (λ _. k) (λ _. requeue_orderly at a2 a3 a4)

  futex_orderly : (see : ℕ → ℕ) (readable : Places) (h at flags a2 a3 a4 : ℕ) → IsOrderly (futex_call see readable s h at flags a2 a3 a4).state
  unfolding futex_call
  futex_orderly see readable h at flags a2 a3 a4 = operation_orderly see readable h at a2 a3 a4 (operation_of flags)

  -- ---- memory
  brk_orderly : (to : ℕ) → IsOrderly (brk s to).state
  unfolding brk
  brk_orderly to =
      either (nat_le s.break_start to && nat_le to s.map_top) _ _
      (λ e. (let t = and_parts (nat_le s.break_start to) (nat_le to s.map_top) e in with_break to (leb-true s.break_start to t.0) (leb-true to s.map_top t.1))) (λ _. k)

  top_orderly : (at to : ℕ) (b : Bool) → (at == s.map_top) ≡ b → to % 4096 ≡ 0 → at ≤ to → to ≤ map_end → IsOrderly (if b then record s { map_top = to } else s)
  top_orderly at to true e whole low high = let same = eqb-true at s.map_top e in let below = k.below_top in with_top to whole (omega (arith, same, low, below)) high
  top_orderly at to false e whole low high = k

  munmap_orderly : (at len : ℕ) → IsOrderly (munmap s at len).state
  unfolding munmap
  munmap_orderly at len =
      let to = at + pages len in
      either (not (is_page at) || len == 0 || not (is_mapping s at to)) _ _ (λ _. k) (λ e.
      (let t = or_parts (not (is_page at) || len == 0) (not (is_mapping s at to)) e in
      let page = eqb-true (at % 4096) 0 (not_not (is_page at) (or_parts (not (is_page at)) (len == 0) t.0).0) in
      let high = leb-true to map_end (and_parts (nat_le s.map_top at) (nat_le to map_end) (not_not (is_mapping s at to) t.1)).1 in
      top_orderly at to (at == s.map_top) refl (omega (arith, page)) (omega arith) high))

  mmap_orderly : (len rights flags : ℕ) → IsOrderly (mmap s len rights flags).state
  unfolding mmap
  mmap_orderly len rights flags =
      either (len == 0 || not (has flags 0x20) || has flags 0x10) _ _ (λ _. k) (λ _. either (has rights 4) _ _ (λ _. k)
      (λ _. either (nat_lt s.map_top (pages s.break_now + pages len)) _ _ (λ _. k) (λ e.
      (let room = ltb-false s.map_top (pages s.break_now + pages len) e in
      let whole = k.top_whole in
      let below = k.below_end in
      with_top (s.map_top - pages len) (omega (arith, whole)) (omega (arith, room)) (omega (arith, below))))))

  mprotect_orderly : (at len rights : ℕ) → IsOrderly (mprotect s at len rights).state
  unfolding mprotect
  mprotect_orderly at len rights = either (not (is_page at)) _ _ (λ _. k) (λ _. either (has rights 4) _ _ (λ _. k) (λ _. k))

  -- ---- threads
  clone_orderly : (writable : Places) (flags stack parent tls child : ℕ) → IsOrderly (clone writable s flags stack parent tls child).state
  unfolding clone
  clone_orderly writable flags stack parent tls child =
      either (not (is_thread flags) || stack == 0) _ _ (λ _. k) (λ _. either (not (list_all (is_word writable) (tid_words flags parent child))) _ _ (λ _. k)
      (λ _. either (s.made == hart_limit) _ _ (λ _. k) (λ e. (let other = eqb-false s.made hart_limit e in let few = k.few_made in with_made (omega (arith, other, few))))))

  -- ---- each call
  served_orderly : (see : ℕ → ℕ) (readable writable : Places) (h clear : ℕ) (v : Service) (a0 a1 a2 a3 a4 : ℕ) → IsOrderly (served see readable writable s h clear v a0 a1 a2 a3 a4).state
  served_orderly see readable writable h clear call.Read a0 a1 a2 a3 a4 = read_orderly writable a0 a1 a2
  served_orderly see readable writable h clear call.Write a0 a1 a2 a3 a4 = write_orderly see readable a0 a1 a2
  served_orderly see readable writable h clear call.Writev a0 a1 a2 a3 a4 = writev_orderly see readable a0 a1 a2
  served_orderly see readable writable h clear call.Exit a0 a1 a2 a3 a4 = exit_orderly writable clear
  served_orderly see readable writable h clear call.Futex a0 a1 a2 a3 a4 = futex_orderly see readable h a0 a1 a2 a3 a4
  served_orderly see readable writable h clear call.Brk a0 a1 a2 a3 a4 = brk_orderly a0
  served_orderly see readable writable h clear call.Munmap a0 a1 a2 a3 a4 = munmap_orderly a0 a1
  served_orderly see readable writable h clear call.Clone a0 a1 a2 a3 a4 = clone_orderly writable a0 a1 a2 a3 a4
  served_orderly see readable writable h clear call.Mmap a0 a1 a2 a3 a4 = mmap_orderly a1 a2 a3
  served_orderly see readable writable h clear call.Mprotect a0 a1 a2 a3 a4 = mprotect_orderly a0 a1 a2
  served_orderly see readable writable h clear _ a0 a1 a2 a3 a4 = k

  unless_orderly : (o : Option ℕ) (d : Done) → IsOrderly d.state → IsOrderly (unless_link s o d).state
  unless_orderly None d f = f
  unless_orderly (Some n) d f = k

  pub asked_orderly : (see : ℕ → ℕ) (readable writable : Places) (h clear : ℕ) (regs : List Value) → IsOrderly (asked see readable writable s h clear regs).state
  unfolding asked
  asked_orderly see readable writable h clear regs =
      unless_orderly (link_read regs) _ (served_orderly see readable writable h clear (service_of (number regs 17)) (number regs 10) (number regs 11) (number regs 12) (number regs 13) (number regs 14))

-- ---- steps
jumped_orderly : (o : Option Outcome) (h to : ℕ) (link : Option ℕ) (s : machine.State) → IsOrderly s.system → IsOrderly (jumped_unless o h to link s).system
jumped_orderly None h to link s k = k
jumped_orderly (Some x) h to link s k = k

answer_orderly : (org : ℕ → ℕ) (p : Picture) (h : ℕ) (i : Bool) (a : Acted) (s : machine.State) → IsOrderly s.system → IsOrderly (by_answer org p h i a s).system
unfolding by_answer called call_of
answer_orderly org p h i acted.Next s k = k
answer_orderly org p h i (acted.Stored block) s k = k
answer_orderly org p h i (acted.Jump to by link) s k = jumped_orderly _ h to link s k
answer_orderly org p h i acted.Call s k = asked_orderly s.system k _ _ _ h _ _
answer_orderly org p h i (acted.Trap cause value) s k = k
answer_orderly org p h i (acted.LinkUse rule) s k = k
answer_orderly org p h i acted.NoMemory s k = k

effect_orderly : (org : ℕ → ℕ) (p : Picture) (h : ℕ) (i : Bool) (e : Effect) (s : machine.State) → IsOrderly s.system → IsOrderly (after_effect org p h i e s).system
unfolding after_effect
effect_orderly org p h i e s k = answer_orderly org p h i (answer_of e) _ k

instr_orderly : (org : ℕ → ℕ) (p : Picture) (h word : ℕ) (o : Option Instr) (s : machine.State) → IsOrderly s.system → IsOrderly (on_instr org p h word o s).system
instr_orderly org p h word None s k = k
instr_orderly org p h word (Some i) s k = effect_orderly org p h _ _ s k

fetched_orderly : (org : ℕ → ℕ) (p : Picture) (h : ℕ) (o : Option ℕ) (s : machine.State) → IsOrderly s.system → IsOrderly (on_fetched org p h o s).system
unfolding on_fetched
fetched_orderly org p h None s k = k
fetched_orderly org p h (Some word) s k = instr_orderly org p h word (decoded word) s k

settled_orderly : (s : machine.State) → IsOrderly s.system → IsOrderly (settled s).system
unfolding settled
settled_orderly s k = by_test (not (is_some s.outcome) && is_stalled s.harts)
  where
    by_test : (b : Bool) → IsOrderly (if b then ended Stalled s else s).system
    by_test true = k
    by_test false = k

pub step_orderly : (fetch : ℕ → Option ℕ) (org : ℕ → ℕ) (p : Picture) (h : ℕ) (s : machine.State) → IsOrderly s.system → IsOrderly (step_with fetch org p h s).system
unfolding step_with
step_orderly fetch org p h s k = by_test (can_step h s) _ (settled_orderly _ (fetched_orderly org p h _ s k))
  where
    by_test : (b : Bool) (t : machine.State) → IsOrderly t.system → IsOrderly (if b then t else s).system
    by_test true t f = f
    by_test false t f = k

pub replaced_orderly : (p : Picture) (c : Code) (h : ℕ) (r : machine.State) → IsOrderly r.system → IsOrderly (replaced_step p c h r).system
unfolding replaced_step
replaced_orderly p c h r k = step_orderly c.word (origin c) p h r k

pub original_orderly : (p : Picture) (h : ℕ) (o : machine.State) → IsOrderly o.system → IsOrderly (original_step p h o).system
unfolding original_step
original_orderly p h o k = step_orderly (word_at p.texts) (λ a. a) p h o k

pub until_orderly : (p : Picture) (c : Code) (n h : ℕ) (r : machine.State) → IsOrderly r.system → IsOrderly (until_real p c n h r).system
unfolding until_real
until_orderly p c zero h r k = k
until_orderly p c (suc n) h r k = by_test (is_layout (stepped c h r)) (until_orderly p c n h (replaced_step p c h r) (replaced_orderly p c h r k))
  where
    by_test : (b : Bool) → IsOrderly (until_real p c n h (replaced_step p c h r)).system → IsOrderly (if b then until_real p c n h (replaced_step p c h r) else replaced_step p c h r).system
    by_test true f = f
    by_test false f = replaced_orderly p c h r k

-- ---- the start
highest_low : (ns : List ℕ) (b : ℕ) → All (λ n. n ≤ b) ns → highest ns ≤ b
highest_low [] b k = omega arith
highest_low (n ∷ ns) b k =
    let here = k 0 n (omega arith) in
    let rest = highest_low ns b (All-tail (λ n. n ≤ b) n ns k) in
    omega (arith, here, rest)

end_low : (p : Picture) → IsKept p → (b : Bool) → nat_lt p.region.from p.region.to ≡ b → (if b then p.region.to else 0) ≤ 0x08000000
end_low p k true e =
    let some = ltb-true p.region.from p.region.to e in
    let last = (k.region.free (p.region.to - 1) (omega (arith, some)) (omega (arith, some))).high in
    omega (arith, last)
end_low p k false e = omega arith

pub start_orderly : (p : Picture) (input : List ℕ) → IsKept p → IsOrderly (start_of p input).system
unfolding start_of
start_orderly p input k =
    let region = end_low p k (nat_lt p.region.from p.region.to) refl in
    let texts = highest_low (map text_end p.texts) 0x08000000 (All-map (λ n. n ≤ 0x08000000) text_end p.texts (λ i d lt. (k.texts_fit i d lt).high)) in
    let parts = highest_low (map part_end p.parts) 0x08000000 (All-map (λ n. n ≤ 0x08000000) part_end p.parts (λ i d lt. (k.parts_fit i d lt).high)) in
    record {
      start_whole = omega arith;
      top_whole = omega arith;
      past_start = omega arith;
      below_top = omega (arith, region, texts, parts);
      below_end = omega arith;
      out_short = omega arith;
      err_short = omega arith;
      some_made = omega arith;
      few_made = omega arith;
    }
