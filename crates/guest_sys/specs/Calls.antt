-- What a system call does, as a value that is computed from what it reads: the registers, the state of the system, the
-- memory as the program sees it (`seen`, a function of an address), and the bytes with rights. A second definition says
-- what it leaves in memory. So calls that read alike do alike, whatever comes after what they read.
-- Source: the manual pages of Linux for each call, of which this project serves a part; the numbers of errors are errno's.
use Rattle.std.specs.Prelude.{◌≡◌, ℕ, ◌+◌, ◌-◌, ◌*◌, ◌%◌, ◌^◌, ◌==◌, ◌&&◌, ◌||◌, Bool, true, false, not, nat_le, nat_lt, min, List, [], ◌∷◌, ◌++◌, length, take, drop, map, get_or, Option, Some, None, Result, Ok, Err, bit_and, if◌then◌else◌}
use Rattle.std.specs.List.{range_with_len, flat_map, list_all}
use Rattle.finite.specs.Maps.{Places, contains_all}
use Rattle.oc_base.specs.declared.range.Range.{Range}
use Rattle.oc_base.specs.declared.fault.NoMemory.{NoMemory}
use Rattle.link_tags.specs.declared.value.Value.{Value}
use Rattle.guest_mem.specs.Memory.{Memory, number_of, bytes_from, bytes_of}
use Rattle.guest_mem.specs.Access.{put, mapped, with_rights, seen}
use Rattle.guest_sys.specs.declared.effect.Reply.{Reply}
use Rattle.guest_sys.specs.declared.effect.Reply.TheVariants as reply
use Rattle.guest_sys.specs.declared.effect.Effect.{Effect}
use Rattle.guest_sys.specs.declared.service.Service.{Service}
use Rattle.guest_sys.specs.declared.service.Service.TheVariants as call
use Rattle.guest_sys.specs.declared.service.Operation.TheVariants as futex
use Rattle.guest_sys.specs.Limits.{map_end, output_limit, hart_limit}
use Rattle.guest_sys.specs.Services.{service_of, operation_of, number, link_read}
use Rattle.guest_sys.specs.State.{State, pages}
use Rattle.guest_sys.specs.Waiting.{first_at, others, harts, requeued}

-- a change of memory
pub data Change : Type 0 where
  -- bytes are put at an address
  put_at : (at : ℕ) (bytes : List ℕ) → Change
  -- the bytes from an address up to another are zero, with these rights
  map_zero : (from to : ℕ) (read write : Bool) → Change
  -- they get these rights
  give_rights : (from to : ℕ) (read write : Bool) → Change

pub record Done : Type 0 where
  pub reply : Reply
  pub woken : List ℕ
  pub changes : List Change
  pub state : State

abbrev pub done : Reply → List Change → State → Done
done r changes s = record { reply = r; woken = []; changes = changes; state = s }

-- the state stands
abbrev pub replies : State → Reply → Done
replies s r = done r [] s

abbrev pub answers : State → ℕ → Done
answers s n = replies s (reply.Answer n)

-- the error -n
abbrev pub fails : State → ℕ → Done
fails s n = answers s (2 ^ 64 - n)

-- a bit of a set of flags
abbrev pub has : ℕ → ℕ → Bool
has flags bit = not (bit_and flags bit == 0)

abbrev pub is_page : ℕ → Bool
is_page a = a % 4096 == 0

-- an address of 4 bytes of s
abbrev pub is_word : Places → ℕ → Bool
is_word s a = a % 4 == 0 && contains_all s a 4

-- the tid of a hart
abbrev pub tid : ℕ → ℕ
tid h = h + 1

-- output 1 or 2
abbrev pub output : State → ℕ → List ℕ
output s fd = if fd == 1 then s.out else s.err

abbrev pub is_output : ℕ → Bool
is_output fd = fd == 1 || fd == 2

-- bytes are added to an output
abbrev pub added : State → ℕ → List ℕ → State
added s fd bytes = if fd == 1 then record s { out = s.out ++ bytes } else record s { err = s.err ++ bytes }

-- parts of memory, each an address and a length
abbrev pub all_readable : Places → List (ℕ × ℕ) → Bool
all_readable readable ps = list_all (λ (p : ℕ × ℕ). contains_all readable p.0 p.1) ps

abbrev pub bytes_of_parts : (ℕ → ℕ) → List (ℕ × ℕ) → List ℕ
bytes_of_parts see ps = flat_map (λ (p : ℕ × ℕ). bytes_from see p.0 p.1) ps

-- the parts of a table of n pairs, of which the k-th has an address and a length of 8 bytes each
abbrev pub part : (ℕ → ℕ) → ℕ → ℕ → ℕ × ℕ
part see at k = (number_of (bytes_from see (at + 16 * k) 8), number_of (bytes_from see (at + 16 * k + 8) 8))

abbrev pub parts : (ℕ → ℕ) → ℕ → ℕ → List (ℕ × ℕ)
parts see at n = map (part see at) (range_with_len 0 n)

-- the word that a hart clears at its end
abbrev pub is_cleared : Places → ℕ → Bool
is_cleared writable clear = not (clear == 0) && is_word writable clear

-- bytes that are gained are zero and may be read and written, and those given up have no rights
abbrev pub break_changes : (before after : ℕ) → List Change
break_changes before after =
    if nat_lt before after then map_zero before after true true ∷ []
    else (if nat_lt after before then map_zero after before false false ∷ [] else [])

-- the bytes from a place up to another lie among those of mappings
abbrev pub is_mapping : State → ℕ → ℕ → Bool
is_mapping s from to = nat_le s.map_top from && nat_le to map_end

-- CLONE_VM (0x100) and CLONE_THREAD (0x10000) are asked for, and no bit that isn't served
abbrev pub is_thread : ℕ → Bool
is_thread flags = has flags 0x100 && has flags 0x10000 && not (has flags 0xFFFF_FFFF_FE82_F000)

-- an argument that a bit of the flags asks for
abbrev pub asked_for : (flags bit argument : ℕ) → Option ℕ
asked_for flags bit argument = if has flags bit then Some argument else None

abbrev pub listed : Option ℕ → List ℕ
listed None = []
listed (Some n) = n ∷ []

-- the words that get the child's tid: for CLONE_PARENT_SETTID (0x100000) and CLONE_CHILD_SETTID (0x1000000)
abbrev pub tid_words : (flags parent child : ℕ) → List ℕ
tid_words flags parent child = listed (asked_for flags 0x10_0000 parent) ++ listed (asked_for flags 0x100_0000 child)

abbrev pub puts : List ℕ → List ℕ → List Change
puts bytes words = map (λ (a : ℕ). put_at a bytes) words

-- the tid of the hart to be made, as 4 bytes
abbrev pub tid_bytes : State → List ℕ
tid_bytes s = take 4 (bytes_of (tid s.made))

-- ---- input and output
unfoldable pub read : Places → State → ℕ → ℕ → ℕ → Done
read writable s fd at count =
    let k = min count (length s.input) in
    if not (fd == 0) then fails s 9
    else (if not (contains_all writable at k) then fails s 14
    else done (reply.Answer k) (put_at at (take k s.input) ∷ []) (record s { input = drop k s.input }))

abbrev pub written : State → ℕ → List ℕ → Done
written s fd bytes =
    if nat_lt output_limit (length (output s fd) + length bytes) then replies s reply.OutputFull
    else done (reply.Answer (length bytes)) [] (added s fd bytes)

unfoldable pub write_parts : (ℕ → ℕ) → Places → State → ℕ → List (ℕ × ℕ) → Done
write_parts see readable s fd ps = if not (all_readable readable ps) then fails s 14 else written s fd (bytes_of_parts see ps)

unfoldable pub write : (ℕ → ℕ) → Places → State → ℕ → ℕ → ℕ → Done
write see readable s fd at count = if not (is_output fd) then fails s 9 else write_parts see readable s fd ((at, count) ∷ [])

unfoldable pub writev : (ℕ → ℕ) → Places → State → ℕ → ℕ → ℕ → Done
writev see readable s fd at count =
    if not (is_output fd) then fails s 9
    else (if nat_lt 1024 count then fails s 22
    else (if not (contains_all readable at (16 * count)) then fails s 14
    else write_parts see readable s fd (parts see at count)))

-- ---- waiting
abbrev pub woken : State → Reply → List Change → ℕ → ℕ → Done
woken s r changes n a = record {
  reply = r;
  woken = harts (first_at n a s.waiting);
  changes = changes;
  state = record s { waiting = others n a s.waiting };
}

unfoldable pub exit : Places → State → ℕ → Done
exit writable s clear =
    if is_cleared writable clear then woken s reply.EndHart (put_at clear (0 ∷ 0 ∷ 0 ∷ 0 ∷ []) ∷ []) 1 clear
    else replies s reply.EndHart

unfoldable pub wait : (ℕ → ℕ) → Places → State → (h at value timeout : ℕ) → Done
wait see readable s h at value timeout =
    if not (timeout == 0) then fails s 38
    else (if not (contains_all readable at 4) then fails s 14
    else (if not (number_of (bytes_from see at 4) == value % 2 ^ 32) then fails s 11
    else done (reply.Wait at) [] (record s { waiting = s.waiting ++ (record { hart = h; at = at }) ∷ [] })))

unfoldable pub wake : State → (at count : ℕ) → Done
wake s at count =
    let n = count % 2 ^ 32 in
    woken s (reply.Answer (length (first_at n at s.waiting))) [] n at

unfoldable pub requeue : State → (at count more to : ℕ) → Done
requeue s at count more to =
    let d = wake s at count in
    record d { state = record d.state { waiting = requeued (more % 2 ^ 32) at to d.state.waiting } }

unfoldable pub futex_call : (ℕ → ℕ) → Places → State → (h at flags a2 a3 a4 : ℕ) → Done
futex_call see readable s h at flags a2 a3 a4 = elim (operation_of flags) [
  | futex.Other ↦ fails s 38
  | futex.Wait ↦ if not (at % 4 == 0) then fails s 22 else wait see readable s h at a2 a3
  | futex.Wake ↦ if not (at % 4 == 0) then fails s 22 else wake s at a2
  | futex.Requeue ↦ if not (at % 4 == 0) then fails s 22 else requeue s at a2 a3 a4
]

-- ---- memory
unfoldable pub brk : State → ℕ → Done
brk s to =
    if nat_le s.break_start to && nat_le to s.map_top
    then done (reply.Answer to) (break_changes (pages s.break_now) (pages to)) (record s { break_now = to })
    else answers s s.break_now

unfoldable pub munmap : State → ℕ → ℕ → Done
munmap s at len =
    let to = at + pages len in
    if not (is_page at) || len == 0 || not (is_mapping s at to) then fails s 22
    else done (reply.Answer 0) (map_zero at to false false ∷ []) (if at == s.map_top then record s { map_top = to } else s)

-- asked for are MAP_ANONYMOUS (0x20) and not MAP_FIXED (0x10); of rights, PROT_READ (1) and PROT_WRITE (2), not PROT_EXEC (4)
unfoldable pub mmap : State → (len rights flags : ℕ) → Done
mmap s len rights flags =
    let at = s.map_top - pages len in
    if len == 0 || not (has flags 0x20) || has flags 0x10 then fails s 22
    else (if has rights 4 then fails s 13
    else (if nat_lt s.map_top (pages s.break_now + pages len) then fails s 12
    else done (reply.Answer at) (map_zero at s.map_top (has rights 1) (has rights 2) ∷ []) (record s { map_top = at })))

unfoldable pub mprotect : State → (at len rights : ℕ) → Done
mprotect s at len rights =
    let to = at + pages len in
    if not (is_page at) then fails s 22
    else (if has rights 4 then fails s 13
    else done (reply.Answer 0) (if is_mapping s at to then give_rights at to (has rights 1) (has rights 2) ∷ [] else []) s)

-- ---- threads
-- a hart is made, and its tid put into these words, for CLONE_SETTLS (0x80000) and CLONE_CHILD_CLEARTID (0x200000)
abbrev pub cloned : State → (flags stack tls child : ℕ) → List ℕ → Done
cloned s flags stack tls child words =
    done (reply.Clone stack (asked_for flags 0x8_0000 tls) (if has flags 0x20_0000 then child else 0) (tid s.made))
    (puts (tid_bytes s) words) (record s { made = s.made + 1 })

unfoldable pub clone : Places → State → (flags stack parent tls child : ℕ) → Done
clone writable s flags stack parent tls child =
    if not (is_thread flags) || stack == 0 then fails s 22
    else (if not (list_all (is_word writable) (tid_words flags parent child)) then fails s 14
    else (if s.made == hart_limit then replies s reply.HartsFull
    else cloned s flags stack tls child (tid_words flags parent child)))

-- ---- the call of hart h, whose clear address is this, by its arguments
abbrev pub served : (ℕ → ℕ) → Places → Places → State → (h clear : ℕ) → Service → (a0 a1 a2 a3 a4 : ℕ) → Done
served see readable writable s h clear call.Ioctl a0 a1 a2 a3 a4 = fails s 25
served see readable writable s h clear call.Read a0 a1 a2 a3 a4 = read writable s a0 a1 a2
served see readable writable s h clear call.Write a0 a1 a2 a3 a4 = write see readable s a0 a1 a2
served see readable writable s h clear call.Writev a0 a1 a2 a3 a4 = writev see readable s a0 a1 a2
served see readable writable s h clear call.Exit a0 a1 a2 a3 a4 = exit writable s clear
served see readable writable s h clear call.ExitGroup a0 a1 a2 a3 a4 = replies s (reply.EndAll (a0 % 256))
served see readable writable s h clear call.SetTidAddress a0 a1 a2 a3 a4 = replies s (reply.SetClear a0)
served see readable writable s h clear call.Futex a0 a1 a2 a3 a4 = futex_call see readable s h a0 a1 a2 a3 a4
served see readable writable s h clear call.SetRobustList a0 a1 a2 a3 a4 = answers s 0
served see readable writable s h clear call.SchedYield a0 a1 a2 a3 a4 = answers s 0
served see readable writable s h clear call.RtSigaction a0 a1 a2 a3 a4 = answers s 0
served see readable writable s h clear call.RtSigprocmask a0 a1 a2 a3 a4 = answers s 0
served see readable writable s h clear call.Getpid a0 a1 a2 a3 a4 = answers s 1
served see readable writable s h clear call.Gettid a0 a1 a2 a3 a4 = answers s (tid h)
served see readable writable s h clear call.Brk a0 a1 a2 a3 a4 = brk s a0
served see readable writable s h clear call.Munmap a0 a1 a2 a3 a4 = munmap s a0 a1
served see readable writable s h clear call.Clone a0 a1 a2 a3 a4 = clone writable s a0 a1 a2 a3 a4
served see readable writable s h clear call.Mmap a0 a1 a2 a3 a4 = mmap s a1 a2 a3
served see readable writable s h clear call.Mprotect a0 a1 a2 a3 a4 = mprotect s a0 a1 a2
served see readable writable s h clear call.Unknown a0 a1 a2 a3 a4 = fails s 38

abbrev pub unless_link : State → Option ℕ → Done → Done
unless_link s None d = d
unless_link s (Some k) d = replies s (reply.LinkUse k)

-- the call that the registers x10 to x17 ask for
unfoldable pub asked : (ℕ → ℕ) → Places → Places → State → (h clear : ℕ) → List Value → Done
asked see readable writable s h clear regs =
    unless_link s (link_read regs)
    (served see readable writable s h clear (service_of (number regs 17)) (number regs 10) (number regs 11) (number regs 12) (number regs 13) (number regs 14))

-- ---- what a call leaves in memory
abbrev pub changed : (ℕ → ℕ) → Memory → Change → Memory
changed origin m (put_at at bytes) = put origin m at (length bytes) (λ q. get_or bytes (q - at) 0)
changed origin m (map_zero from to read write) = mapped m from (to - from) read write
changed origin m (give_rights from to read write) = with_rights m from (to - from) read write

abbrev pub all_changed : (ℕ → ℕ) → Memory → List Change → Memory
all_changed origin m [] = m
all_changed origin m (c ∷ cs) = all_changed origin (changed origin m c) cs

-- the range of n bytes at an address, where there are some
abbrev pub span : ℕ → ℕ → List Range
span at n = if n == 0 then [] else (record { from = at; to = at + n }) ∷ []

-- the ranges of bytes that a call wrote
abbrev pub ranges : List Change → List Range
ranges [] = []
ranges (put_at at bytes ∷ cs) = span at (length bytes) ++ ranges cs
ranges (map_zero from to read write ∷ cs) = ranges cs
ranges (give_rights from to read write ∷ cs) = ranges cs

-- what the caller is told of it
abbrev pub told : Done → Effect
told d = record { reply = d.reply; woken = d.woken; written = ranges d.changes }

-- how a call that does d ends: s and m were before, and s' and m' are now
abbrev pub Ends : (ℕ → ℕ) → Done → State → State → Memory → Memory → Result Effect NoMemory → Type 0
Ends origin d s s' m m' (Ok effect) = (effect ≡ told d) × (s' ≡ d.state) × (m' ≡ all_changed origin m d.changes)
Ends origin d s s' m m' (Err e) = (s' ≡ s) × (m' ≡ m)

-- so ends a call that computes what it does from what it reads
abbrev pub Does : (ℕ → ℕ) → ((ℕ → ℕ) → Places → Places → State → Done) → State → State → Memory → Memory → Result Effect NoMemory → Type 0
Does origin call s s' m m' result = Ends origin (call (seen origin m) m.readable m.writable s) s s' m m' result

-- how a call ends that does d and leaves memory alone
abbrev pub Rests : Done → State → State → Result Effect NoMemory → Type 0
Rests d s s' (Ok effect) = (effect ≡ told d) × (s' ≡ d.state)
Rests d s s' (Err e) = s' ≡ s
