-- What follows from the form of a top call.
use Rattle.std.proofs.Common.{◌≡◌, ◌≢◌, ◌⊎◌, inl, inr, ℕ, suc, List, [], ◌∷◌, ◌++◌, take, drop, append-nil, append_assoc, Option, Some, None, Result, Ok, Err, refl, ap, sym, subst, ◌∙◌}
use Rattle.std.specs.Option.{ForSome}
use Rattle.oc_base.specs.Outside.{Disk, Rose, RoseAtMost, Asks, gained, dropped, GainedPart, LostPart}
use Rattle.oc_base.proofs.Told.{gained-gained, lost_more}
use Rattle.oc_base.specs.declared.fault.Failed.{Failed as DeviceFailed}
use Rattle.top_call.specs.declared.reading.Unread.{Unread}
use Rattle.top_call.specs.declared.reading.Unread.TheVariants.{Failed, TooLong, NoMemory}
use Rattle.top_call.specs.Outside.{Outside, OnlyRead}
use Rattle.top_call.specs.Reading.{Reading, all_read, a_file, the_input, given_then, given_by, FileCause, FileRead, InputCause, InputRead}
use Rattle.top_call.specs.Writing.{Write, to_out, to_err, to_file, Whole, Broken, AllWritten, WriteFailed, Wrote, WroteAll}
use Rattle.top_call.specs.Call.{TopCall, DecidesBy, Decides, Decided, Written, EndsWith, Delivered, AllDone, Excused, Settled, unread, unwritten, out_of_memory}

-- ---- reading changes what is read alone

only_trans : (a b c : Outside) → OnlyRead a b → OnlyRead b c → OnlyRead a c
only_trans a b c first second = second ∙ ap (λ (x : Outside). record x { asked = c.asked; left = c.left; takes = c.takes; reads = c.reads }) first

file_only : (name : List ℕ) (limit : ℕ) (a b : Outside) (r : Result (List ℕ) Unread) → FileRead name limit a b r → OnlyRead a b
file_only name limit a b r read = read.rest ∙ ap (λ (x : Outside). record a { asked = b.asked; left = x.left; takes = b.takes; reads = x.reads }) (sym read.rest)

input_only : (a b : Outside) (r : Result (List ℕ) Unread) → InputRead a b r → OnlyRead a b
input_only a b r read = read.rest ∙ ap (λ (x : Outside). record a { asked = x.asked; left = b.left; takes = x.takes; reads = b.reads }) (sym read.rest)

-- ---- refusals of a step

lost_none : {A : Type 0} (told : Option (List A)) → LostPart told told
lost_none None = record { count = 0; part = refl }
lost_none (Some xs) = record { count = 0; part = refl }

lost_trans : (a b c : Option (List ℕ)) → LostPart a b → LostPart b c → LostPart a c
lost_trans a b c first second = lost_more a b c first.count second.count first.part second.part

no_ok : {T E : Type 0} (x : T) (e : E) → Ok x ≡ Err e → ⊥
no_ok x e is = cc

-- with no room for a reason memory ran out
file_full : (name : List ℕ) (limit : ℕ) (a b : Outside) (why : Unread) → FileRead name limit a b (Err why) → FileRead name limit a b (Err NoMemory)
file_full name limit a b why read = record { cause = cause why read.cause; asked = asked read.asked; rest = read.rest }
  where
    cause : (why : Unread) → FileCause name limit a b (Err why) → RoseAtMost a.takes b.takes
    cause (Failed given) is = inr is.1
    cause (TooLong given) is = inl is.2
    cause NoMemory is = is

    asked : Asks {T = List ℕ} NoMemory a.asked b.asked name (Err why) → Asks {T = List ℕ} NoMemory a.asked b.asked name (Err NoMemory)
    asked (inl is) = inl is
    asked (inr is) = inr (is.0, refl)

input_full : (a b : Outside) (why : Unread) → InputRead a b (Err why) → InputRead a b (Err NoMemory)
input_full a b why read = record { cause = cause why read.cause; left = read.left; rest = read.rest }
  where
    cause : (why : Unread) → InputCause a b (Err why) → RoseAtMost a.reads b.reads
    cause (Failed given) is = inr is.1
    cause (TooLong given) is = inl is.2
    cause NoMemory is = is

-- ---- each device that is read fails at most once

-- what is known of a device that was read
pub record HasRead (a b : Outside) : Type 0 where
  pub left : LostPart a.left b.left
  pub takes : RoseAtMost a.takes b.takes
  pub reads : RoseAtMost a.reads b.reads

rose_as : (a b c : Option ℕ) → b ≡ a → RoseAtMost b c → RoseAtMost a c
rose_as a b c same rose = subst (λ x. RoseAtMost x c) same rose

file_has_read : (name : List ℕ) (limit : ℕ) (a b : Outside) (r : Result (List ℕ) Unread) → FileRead name limit a b r → HasRead a b
file_has_read name limit a b r read = record {
  left = subst (LostPart a.left) (sym (ap (λ (x : Outside). x.left) read.rest)) (lost_none a.left);
  takes = takes r read.cause;
  reads = inl (ap (λ (x : Outside). x.reads) read.rest);
}
  where
    takes : (r : Result (List ℕ) Unread) → FileCause name limit a b r → RoseAtMost a.takes b.takes
    takes (Ok bytes) is = inl is.1
    takes (Err (Failed given)) is = inr is.1
    takes (Err (TooLong given)) is = inl is.2
    takes (Err NoMemory) is = is

input_has_read : (a b : Outside) (r : Result (List ℕ) Unread) → InputRead a b r → HasRead a b
input_has_read a b r read = record {
  left = read.left;
  takes = inl (ap (λ (x : Outside). x.takes) read.rest);
  reads = reads r read.cause;
}
  where
    reads : (r : Result (List ℕ) Unread) → InputCause a b r → RoseAtMost a.reads b.reads
    reads (Ok bytes) is = inl is.2
    reads (Err (Failed given)) is = inr is.1
    reads (Err (TooLong given)) is = inl is.2
    reads (Err NoMemory) is = is

-- no count of a device rose where bytes were given
file_quiet : (name : List ℕ) (limit : ℕ) (a b : Outside) (bytes : List ℕ) → FileRead name limit a b (Ok bytes) → (b.takes ≡ a.takes) × (b.reads ≡ a.reads)
file_quiet name limit a b bytes read = (read.cause.1, ap (λ (x : Outside). x.reads) read.rest)

input_quiet : (a b : Outside) (bytes : List ℕ) → InputRead a b (Ok bytes) → (b.takes ≡ a.takes) × (b.reads ≡ a.reads)
input_quiet a b bytes read = (ap (λ (x : Outside). x.takes) read.rest, read.cause.2)

has_read_after : (a b c : Outside) → HasRead a b → (b.takes ≡ a.takes) × (b.reads ≡ a.reads) → HasRead b c → HasRead a c
has_read_after a b c first quiet second = record {
  left = lost_trans a.left b.left c.left first.left second.left;
  takes = rose_as a.takes b.takes c.takes quiet.0 second.takes;
  reads = rose_as a.reads b.reads c.reads quiet.1 second.reads;
}

has_read_same : (a b : Outside) → b ≡ a → HasRead a b
has_read_same a b same = subst (HasRead a) (sym same) (record { left = lost_none a.left; takes = inl refl; reads = inl refl })

-- ---- what is told

-- a file or an input that isn't read
some_once : {A : Type 0} (x y : A) → Some x ≡ Some y → x ≡ y
some_once x y is = cc

dropped_end : (told : Option (List ℕ)) (all : List ℕ) → told ≡ Some all → all ≡ [] → told ≡ Some []
dropped_end told all tells none = tells ∙ ap Some none

-- where the input was told, it is told that nothing is left
input_ends : (a b : Outside) (bytes all : List ℕ) → a.left ≡ Some all → InputRead a b (Ok bytes) → b.left ≡ Some []
input_ends a b bytes all tells read =
    let now : b.left ≡ Some (drop read.left.count all) = read.left.part ∙ ap (dropped read.left.count) tells in
    dropped_end b.left (drop read.left.count all) now (read.cause.1 (drop read.left.count all) now)

-- ---- names

none_some : {A : Type 0} (x : A) → None ≡ Some x → ⊥
none_some x is = cc

pub gained_none : {A : Type 0} (told : Option (List A)) → gained told [] ≡ told
gained_none None = refl
gained_none (Some xs) = ap Some (append-nil xs)

pub gained_nothing : {A : Type 0} (before now : Option (List A)) (more : List A) → now ≡ before → GainedPart before now more
gained_nothing before now more same = record { count = 0; part = same ∙ sym (gained_none before) }

asks_part : (before now : Option (List (List ℕ))) (name : List ℕ) (rest : List (List ℕ)) (r : Result (List ℕ) Unread) → Asks NoMemory before now name r → GainedPart before now (name ∷ rest)
asks_part before now name rest r (inl is) = record { count = 1; part = is }
asks_part before now name rest r (inr same) = gained_nothing before now (name ∷ rest) same.0

-- a name was asked for where its bytes are given
pub asked_it : (before now : Option (List (List ℕ))) (name bytes : List ℕ) → Asks NoMemory before now name (Ok bytes) → now ≡ gained before (name ∷ [])
asked_it before now name bytes (inl is) = is
asked_it before now name bytes (inr room) = absurd (no_ok bytes NoMemory room.1)

asks_more : (before then now : Option (List (List ℕ))) (name : List ℕ) (rest : List (List ℕ)) → then ≡ gained before (name ∷ []) → GainedPart then now rest → GainedPart before now (name ∷ rest)
asks_more before then now name rest first part = record {
  count = suc part.count;
  part = part.part ∙ ap (λ told. gained told (take part.count rest)) first ∙ gained-gained before (name ∷ []) (take part.count rest);
}

-- and where there was room for the reason
pub asked_for : (before now : Option (List (List ℕ))) (name : List ℕ) (why : Unread) → why ≢ NoMemory → Asks {T = List ℕ} NoMemory before now name (Err why) → now ≡ gained before (name ∷ [])
asked_for before now name why other (inl is) = is
asked_for before now name why other (inr room) = absurd (other (let is = room.1 in cc))

-- the name that was asked for last
pub last_asked : (before now : Option (List (List ℕ))) (first : List (List ℕ)) (name : List ℕ) → now ≡ gained before (first ++ name ∷ []) → ForSome now (λ names. (earlier : List (List ℕ)) × (names ≡ earlier ++ name ∷ []))
last_asked None now first name is = λ names tells. absurd (none_some names (sym is ∙ tells))
last_asked (Some told) now first name is = λ names tells.
    (told ++ first, some_once _ _ (sym tells ∙ is) ∙ sym (append_assoc told first (name ∷ [])))

-- ---- writing

-- Writing reads nothing, and each device fails once at most.
pub record HasWritten (a b : Outside) : Type 0 where
  pub left : b.left ≡ a.left
  pub takes : b.takes ≡ a.takes
  pub reads : b.reads ≡ a.reads
  pub puts : RoseAtMost a.puts b.puts
  pub outs : RoseAtMost a.outs b.outs
  pub errs : RoseAtMost a.errs b.errs

-- whole writes count nothing
pub record CountsNothing (a b : Outside) : Type 0 where
  pub left : b.left ≡ a.left
  pub takes : b.takes ≡ a.takes
  pub reads : b.reads ≡ a.reads
  pub puts : b.puts ≡ a.puts
  pub outs : b.outs ≡ a.outs
  pub errs : b.errs ≡ a.errs

whole_write : (w : Write) (a b : Outside) → Whole w a b → CountsNothing a b
whole_write w a b is = record {
  left = ap (λ (x : Outside). x.left) (frame w is);
  takes = ap (λ (x : Outside). x.takes) (frame w is);
  reads = ap (λ (x : Outside). x.reads) (frame w is);
  puts = ap (λ (x : Outside). x.puts) (frame w is);
  outs = ap (λ (x : Outside). x.outs) (frame w is);
  errs = ap (λ (x : Outside). x.errs) (frame w is);
}
  where
    frame : (w : Write) → Whole w a b → b ≡ record a { disk = b.disk; asked = b.asked; out = b.out; err = b.err }
    frame (to_out bytes) is = is ∙ ap (λ (x : Outside). record a { disk = x.disk; asked = x.asked; out = x.out; err = x.err }) (sym is)
    frame (to_err bytes) is = is ∙ ap (λ (x : Outside). record a { disk = x.disk; asked = x.asked; out = x.out; err = x.err }) (sym is)
    frame (to_file name bytes) is = is.rest ∙ ap (λ (x : Outside). record a { disk = b.disk; asked = b.asked; out = x.out; err = x.err }) (sym is.rest)

broken_write : (w : Write) (a b : Outside) → Broken w a b → HasWritten a b
broken_write (to_out bytes) a b is = record {
  left = ap (λ (x : Outside). x.left) is.2;
  takes = ap (λ (x : Outside). x.takes) is.2;
  reads = ap (λ (x : Outside). x.reads) is.2;
  puts = inl (ap (λ (x : Outside). x.puts) is.2);
  outs = inr is.0;
  errs = inl (ap (λ (x : Outside). x.errs) is.2);
}
broken_write (to_err bytes) a b is = record {
  left = ap (λ (x : Outside). x.left) is.2;
  takes = ap (λ (x : Outside). x.takes) is.2;
  reads = ap (λ (x : Outside). x.reads) is.2;
  puts = inl (ap (λ (x : Outside). x.puts) is.2);
  outs = inl (ap (λ (x : Outside). x.outs) is.2);
  errs = inr is.0;
}
broken_write (to_file name bytes) a b is = record {
  left = ap (λ (x : Outside). x.left) is.rest;
  takes = ap (λ (x : Outside). x.takes) is.rest;
  reads = ap (λ (x : Outside). x.reads) is.rest;
  puts = inr is.failed;
  outs = inl (ap (λ (x : Outside). x.outs) is.rest);
  errs = inl (ap (λ (x : Outside). x.errs) is.rest);
}

written_after : (a b c : Outside) → CountsNothing a b → HasWritten b c → HasWritten a c
written_after a b c first second = record {
  left = second.left ∙ first.left;
  takes = second.takes ∙ first.takes;
  reads = second.reads ∙ first.reads;
  puts = rose_as a.puts b.puts c.puts first.puts second.puts;
  outs = rose_as a.outs b.outs c.outs first.outs second.outs;
  errs = rose_as a.errs b.errs c.errs first.errs second.errs;
}

-- no write takes back what was read
pub record Frame (a b : Outside) : Type 0 where
  pub disk : b.disk ≡ a.disk
  pub out : b.out ≡ a.out
  pub err : b.err ≡ a.err
  pub puts : b.puts ≡ a.puts
  pub outs : b.outs ≡ a.outs
  pub errs : b.errs ≡ a.errs

pub frame : (a b : Outside) → OnlyRead a b → Frame a b
frame a b only = record {
  disk = ap (λ (x : Outside). x.disk) only;
  out = ap (λ (x : Outside). x.out) only;
  err = ap (λ (x : Outside). x.err) only;
  puts = ap (λ (x : Outside). x.puts) only;
  outs = ap (λ (x : Outside). x.outs) only;
  errs = ap (λ (x : Outside). x.errs) only;
}

-- The line of a refusal was written whole.
pub err_written : (line : List ℕ) (a b : Outside) → AllWritten (to_err line ∷ []) a b → b ≡ record a { err = gained a.err line }
err_written line a b (then, whole, same) = same ∙ whole

-- Each device failed once at most in a whole call.
pub record FailsOnce (a b : Outside) : Type 0 where
  pub left : LostPart a.left b.left
  pub takes : RoseAtMost a.takes b.takes
  pub reads : RoseAtMost a.reads b.reads
  pub puts : RoseAtMost a.puts b.puts
  pub outs : RoseAtMost a.outs b.outs
  pub errs : RoseAtMost a.errs b.errs

pub fails_once : (a b c : Outside) → OnlyRead a b → HasRead a b → HasWritten b c → FailsOnce a c
fails_once a b c only read wrote = let kept = frame a b only in record {
  left = subst (LostPart a.left) (sym wrote.left) read.left;
  takes = subst (RoseAtMost a.takes) (sym wrote.takes) read.takes;
  reads = subst (RoseAtMost a.reads) (sym wrote.reads) read.reads;
  puts = rose_as a.puts b.puts c.puts kept.puts wrote.puts;
  outs = rose_as a.outs b.outs c.outs kept.outs wrote.outs;
  errs = rose_as a.errs b.errs c.errs kept.errs wrote.errs;
}

pub whole_writes : (ws : List Write) (a b : Outside) → AllWritten ws a b → HasWritten a b
whole_writes [] a b same = subst (HasWritten a) (sym same) (record { left = refl; takes = refl; reads = refl; puts = inl refl; outs = inl refl; errs = inl refl })
whole_writes (w ∷ ws) a b (then, whole, more) = written_after a then b (whole_write w a then whole) (whole_writes ws then b more)

pub broken_writes : (ws : List Write) (a b : Outside) → WriteFailed ws a b → HasWritten a b
broken_writes [] a b none = absurd none
broken_writes (w ∷ ws) a b (inl broken) = broken_write w a b broken
broken_writes (w ∷ ws) a b (inr (then, whole, more)) = written_after a then b (whole_write w a then whole) (broken_writes ws then b more)

-- one write
pub one_write : (w : Write) (a b : Outside) (result : Result Unit DeviceFailed) → Wrote w a b result → AllWritten (w ∷ []) a b ⊎ WriteFailed (w ∷ []) a b
one_write w a b (Ok done) is = inl (b, is, refl)
one_write w a b (Err failed) is = inr (inl is)

-- and another
pub two_writes : (w v : Write) (a b c : Outside) (result : Result Unit DeviceFailed) → Whole w a b → Wrote v b c result → WroteAll (w ∷ v ∷ []) a c result
two_writes w v a b c (Ok done) first is = (b, first, (c, is, refl))
two_writes w v a b c (Err failed) first is = inr (b, first, inl is)

module _ {G D E A : Type 0} (call : TopCall G D E A) where
  abbrev pub full : Result D E
  full = Err (call.refusal NoMemory)

  -- memory may run out where something was decided
  pub full_after : (r : Reading G E) (a b : Outside) (d : Result D E) → Decided call r a b d → Decided call r a b full
  full_after (all_read g) a b d is = (is.0, inr refl)
  full_after (a_file name limit next) a b d (inl (why, read, is)) = inl (NoMemory, file_full name limit a b why read, refl)
  full_after (a_file name limit next) a b d (inr (bytes, then, read, more)) = inr (bytes, then, read, full_after (next bytes) then b d more)
  full_after (the_input next) a b d (inl (why, read, is)) = inl (NoMemory, input_full a b why read, refl)
  full_after (the_input next) a b d (inr (bytes, then, read, more)) = inr (bytes, then, read, full_after (next bytes) then b d more)

  -- and before anything was read
  pub full_before : (r : Reading G E) (a : Outside) → Decided call r a a full
  full_before (all_read g) a = (refl, inr refl)
  full_before (a_file name limit next) a = inl (NoMemory, record { cause = inl refl; asked = inr (refl, refl); rest = refl }, refl)
  full_before (the_input next) a = inl (NoMemory, record { cause = inl refl; left = lost_none a.left; rest = refl }, refl)

  pub decided_only : (r : Reading G E) (a b : Outside) (d : Result D E) → Decided call r a b d → OnlyRead a b
  decided_only (all_read g) a b d is = is.0 ∙ ap (λ (x : Outside). record a { asked = x.asked; left = x.left; takes = x.takes; reads = x.reads }) (sym is.0)
  decided_only (a_file name limit next) a b d (inl (why, read, is)) = file_only name limit a b (Err why) read
  decided_only (a_file name limit next) a b d (inr (bytes, then, read, more)) = only_trans a then b (file_only name limit a then (Ok bytes) read) (decided_only (next bytes) then b d more)
  decided_only (the_input next) a b d (inl (why, read, is)) = input_only a b (Err why) read
  decided_only (the_input next) a b d (inr (bytes, then, read, more)) = only_trans a then b (input_only a then (Ok bytes) read) (decided_only (next bytes) then b d more)

  pub has_read : (r : Reading G E) (a b : Outside) (d : Result D E) → Decided call r a b d → HasRead a b
  has_read (all_read g) a b d is = has_read_same a b is.0
  has_read (a_file name limit next) a b d (inl (why, read, is)) = file_has_read name limit a b (Err why) read
  has_read (a_file name limit next) a b d (inr (bytes, then, read, more)) =
      has_read_after a then b (file_has_read name limit a then (Ok bytes) read) (file_quiet name limit a then bytes read) (has_read (next bytes) then b d more)
  has_read (the_input next) a b d (inl (why, read, is)) = input_has_read a b (Err why) read
  has_read (the_input next) a b d (inr (bytes, then, read, more)) =
      has_read_after a then b (input_has_read a then (Ok bytes) read) (input_quiet a then bytes read) (has_read (next bytes) then b d more)

  -- Where files and input tell, what was decided is what they ask for, but for a fault and when out of memory.
  pub data Told_of (r : Reading G E) (disk : Disk) (all : List ℕ) (a b : Outside) (d : Result D E) : Type 0 where
    told_whole : Decides call r disk all d → Told_of r disk all a b d
    told_fault : (name : List ℕ) → d ≡ Err (call.refusal (Failed name)) → Rose a.takes b.takes ⊎ Rose a.reads b.reads → Told_of r disk all a b d
    told_full : d ≡ full → Told_of r disk all a b d

  -- a step gave bytes, and then
  after_step : (r next : Reading G E) (disk : Disk) (all left : List ℕ) (a then b : Outside) (d : Result D E)
      → given_by call.refusal r disk all ≡ given_by call.refusal next disk left → (then.takes ≡ a.takes) × (then.reads ≡ a.reads) → Told_of next disk left then b d → Told_of r disk all a b d
  after_step r next disk all left a then b d same quiet (told_whole is) = told_whole (subst (λ g. DecidesBy call g d) (sym same) is)
  after_step r next disk all left a then b d same quiet (told_fault name is rose) =
      told_fault name is (subst (λ x. Rose x b.takes ⊎ Rose a.reads b.reads) quiet.0 (subst (λ x. Rose then.takes b.takes ⊎ Rose x b.reads) quiet.1 rose))
  after_step r next disk all left a then b d same quiet (told_full is) = told_full is

  -- a step refused
  file_refused : (name : List ℕ) (limit : ℕ) (next : List ℕ → Reading G E) (disk : Disk) (all : List ℕ) (a b : Outside) (d : Result D E) (why : Unread) → a.disk ≡ Some disk
      → FileCause name limit a b (Err why) → d ≡ Err (call.refusal why) → Told_of (a_file name limit next) disk all a b d
  file_refused name limit next disk all a b d (Failed given) tells cause is = told_fault given is (inl cause.1)
  file_refused name limit next disk all a b d (TooLong given) tells cause is =
      told_whole (subst (λ w. DecidesBy call (given_then call.refusal w (λ bytes. given_by call.refusal (next bytes) disk all)) d) (sym (cause.1 disk tells ∙ ap (λ n. Err (TooLong n)) (sym cause.0))) is)
  file_refused name limit next disk all a b d NoMemory tells cause is = told_full is

  input_refused : (next : List ℕ → Reading G E) (disk : Disk) (all : List ℕ) (a b : Outside) (d : Result D E) (why : Unread) → a.left ≡ Some all
      → InputCause a b (Err why) → d ≡ Err (call.refusal why) → Told_of (the_input next) disk all a b d
  input_refused next disk all a b d (Failed given) tells cause is = told_fault given is (inr cause.1)
  input_refused next disk all a b d (TooLong given) tells cause is =
      told_whole (subst (λ w. DecidesBy call (given_then call.refusal w (λ bytes. given_by call.refusal (next bytes) disk [])) d) (sym (cause.1 all tells ∙ ap (λ n. Err (TooLong n)) (sym cause.0))) is)
  input_refused next disk all a b d NoMemory tells cause is = told_full is

  pub told_of : (r : Reading G E) (disk : Disk) (all : List ℕ) (a b : Outside) (d : Result D E) → a.disk ≡ Some disk → a.left ≡ Some all → Decided call r a b d → Told_of r disk all a b d
  told_of (all_read g) disk all a b d tells tells' (same, inl is) = told_whole is
  told_of (all_read g) disk all a b d tells tells' (same, inr is) = told_full is
  told_of (a_file name limit next) disk all a b d tells tells' (inl (why, read, is)) = file_refused name limit next disk all a b d why tells read.cause is
  told_of (a_file name limit next) disk all a b d tells tells' (inr (bytes, then, read, more)) =
      after_step (a_file name limit next) (next bytes) disk all all a then b d
      (ap (λ w. given_then call.refusal w (λ bytes. given_by call.refusal (next bytes) disk all)) (read.cause.0 disk tells))
      (file_quiet name limit a then bytes read)
      (told_of (next bytes) disk all then b d (ap (λ (x : Outside). x.disk) read.rest ∙ tells) (ap (λ (x : Outside). x.left) read.rest ∙ tells') more)
  told_of (the_input next) disk all a b d tells tells' (inl (why, read, is)) = input_refused next disk all a b d why tells' read.cause is
  told_of (the_input next) disk all a b d tells tells' (inr (bytes, then, read, more)) =
      after_step (the_input next) (next bytes) disk all [] a then b d
      (ap (λ w. given_then call.refusal w (λ bytes. given_by call.refusal (next bytes) disk [])) (read.cause.0 all tells'))
      (input_quiet a then bytes read)
      (told_of (next bytes) disk [] then b d (ap (λ (x : Outside). x.disk) read.rest ∙ tells) (input_ends a then bytes all tells' read) more)

  -- ---- the answer

  -- what failed at a read failed in the whole call
  rose_still : (a b c : Outside) → HasWritten b c → Rose a.takes b.takes ⊎ Rose a.reads b.reads → Rose a.takes c.takes ⊎ Rose a.reads c.reads
  rose_still a b c wrote (inl rose) = inl (subst (Rose a.takes) (sym wrote.takes) rose)
  rose_still a b c wrote (inr rose) = inr (subst (Rose a.reads) (sym wrote.reads) rose)

  module _ (r : Reading G E) (disk : Disk) (all : List ℕ) (before read after : Outside) (d : Result D E) (answered : A) (only : OnlyRead before read) where
    settled_if_whole : Told_of r disk all before read d → AllWritten (call.ending.writes d) read after → answered ≡ call.ending.answer d → AllDone call r disk all before after answered ⊎ Excused call before after answered
    settled_if_whole (told_whole is) written answer = inl (record { decision = d; decides = is; answer = answer; read = read; only = only; written = written })
    settled_if_whole (told_fault name is rose) written answer = inr (unread name (answer ∙ ap call.ending.answer is) (rose_still before read after (whole_writes (call.ending.writes d) read after written) rose))
    settled_if_whole (told_full is) written answer = inr (out_of_memory (answer ∙ ap call.ending.answer is))

    settled_if_told : Told_of r disk all before read d → Written call.ending d read after answered → AllDone call r disk all before after answered ⊎ Excused call before after answered
    settled_if_told told (inl whole) = settled_if_whole told whole.0 whole.1
    settled_if_told told (inr broken) = inr (unwritten d read broken.1 only broken.0)

  -- The answer is settled where files and input tell.
  pub settles : (r : Reading G E) (before after : Outside) (answered : A) → Delivered call r before after answered → Settled call r before after answered
  settles r before after answered m = λ disk tells all tells'.
      settled_if_told r disk all before m.read after m.decision answered (decided_only r before m.read m.decision m.decided)
      (told_of r disk all before m.read m.decision tells tells' m.decided) m.written

  -- what was decided, and how that ended
  pub delivered : (r : Reading G E) (before read after : Outside) (d : Result D E) (answered : A) → Decided call r before read d → EndsWith call.ending (call.refusal NoMemory) d read after answered → Delivered call r before after answered
  delivered r before read after d answered decided (inl written) = record { decision = d; read = read; decided = decided; written = written }
  delivered r before read after d answered decided (inr written) = record { decision = full; read = read; decided = full_after r before read d decided; written = written }

  pub has_written : (d : Result D E) (read after : Outside) (answered : A) → Written call.ending d read after answered → HasWritten read after
  has_written d read after answered (inl whole) = whole_writes (call.ending.writes d) read after whole.0
  has_written d read after answered (inr broken) = broken_writes (call.ending.writes d) read after broken.0

  pub all_fail_once : (r : Reading G E) (before after : Outside) (answered : A) → Delivered call r before after answered → FailsOnce before after
  all_fail_once r before after answered m =
      fails_once before m.read after (decided_only r before m.read m.decision m.decided) (has_read r before m.read m.decision m.decided) (has_written m.decision m.read after answered m.written)

  -- ---- the names that the files were asked for

  -- a reading that asks for these names, whatever it is given
  abbrev pub Along : List (List ℕ) → Reading G E → Type 0
  Along names (all_read g) = names ≡ []
  Along names (a_file name limit next) = (rest : List (List ℕ)) × (names ≡ name ∷ rest) × ((bytes : List ℕ) → Along rest (next bytes))
  Along names (the_input next) = (bytes : List ℕ) → Along names (next bytes)

  pub asked_part : (names : List (List ℕ)) (r : Reading G E) (a b : Outside) (d : Result D E) → Along names r → Decided call r a b d → GainedPart a.asked b.asked names
  asked_part names (all_read g) a b d along is = gained_nothing a.asked b.asked names (ap (λ (x : Outside). x.asked) is.0)
  asked_part names (a_file name limit next) a b d along (inl (why, read, is)) = subst (GainedPart a.asked b.asked) (sym along.1) (asks_part a.asked b.asked name along.0 (Err why) read.asked)
  asked_part names (a_file name limit next) a b d along (inr (bytes, then, read, more)) =
      subst (GainedPart a.asked b.asked) (sym along.1) (asks_more a.asked then.asked b.asked name along.0 (asked_it a.asked then.asked name bytes read.asked) (asked_part along.0 (next bytes) then b d (along.2 bytes) more))
  asked_part names (the_input next) a b d along (inl (why, read, is)) = gained_nothing a.asked b.asked names (ap (λ (x : Outside). x.asked) read.rest)
  asked_part names (the_input next) a b d along (inr (bytes, then, read, more)) =
      subst (λ told. GainedPart told b.asked names) (ap (λ (x : Outside). x.asked) read.rest) (asked_part names (next bytes) then b d (along bytes) more)

  -- all of them, where nothing that is read is refused
  pub asked_all : (names : List (List ℕ)) (r : Reading G E) (a b : Outside) (d : Result D E) → Along names r → ((why : Unread) → d ≢ Err (call.refusal why)) → Decided call r a b d → b.asked ≡ gained a.asked names
  asked_all names (all_read g) a b d along other is = ap (λ (x : Outside). x.asked) is.0 ∙ sym (gained_none a.asked) ∙ ap (gained a.asked) (sym along)
  asked_all names (a_file name limit next) a b d along other (inl (why, read, is)) = absurd (other why is)
  asked_all names (a_file name limit next) a b d along other (inr (bytes, then, read, more)) =
      asked_all along.0 (next bytes) then b d (along.2 bytes) other more ∙ ap (λ told. gained told along.0) (asked_it a.asked then.asked name bytes read.asked)
      ∙ gained-gained a.asked (name ∷ []) along.0 ∙ ap (gained a.asked) (sym along.1)
  asked_all names (the_input next) a b d along other (inl (why, read, is)) = absurd (other why is)
  asked_all names (the_input next) a b d along other (inr (bytes, then, read, more)) =
      asked_all names (next bytes) then b d (along bytes) other more ∙ ap (λ (x : Outside). gained x.asked names) read.rest
