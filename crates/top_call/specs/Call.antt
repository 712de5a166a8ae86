-- The form of a top call: it reads, decides, and writes and answers what it has decided.
use Rattle.std.specs.Prelude.{◌≡◌, ◌⊎◌, ℕ, List, Result, Ok, Err}
use Rattle.oc_base.specs.Outside.{Disk, Rose}
use Rattle.top_call.specs.declared.reading.Unread.{Unread}
use Rattle.top_call.specs.declared.reading.Unread.TheVariants.{Failed, NoMemory}
use Rattle.top_call.specs.Outside.{Outside, Told, OnlyRead}
use Rattle.top_call.specs.Reading.{Reading, all_read, a_file, the_input, given_by, FileRead, InputRead}
use Rattle.top_call.specs.Writing.{Write, AllWritten, WriteFailed}

-- How a call ends that has decided, to deliver a D or to refuse with an E: what it writes, in order; the answer where all of that is
-- written, and the answer where a device fails at it.
pub record Ending (D E A : Type 0) : Type 0 where
  pub writes : Result D E → List Write
  pub answer : Result D E → A
  pub unwritten : Result D E → A

-- A call: what it delivers for the G that its reading gives, its refusal where something isn't read, and how it ends.
pub record TopCall (G D E A : Type 0) : Type 1 where
  pub delivers : G → Result D E → Type 0
  pub refusal : Unread → E
  pub ending : Ending D E A

-- A decision was written and answered, up to a fault of a device.
abbrev pub Written : {D E A : Type 0} → Ending D E A → Result D E → (read after : Outside) → A → Type 0
Written ending d read after answered =
    (AllWritten (ending.writes d) read after × (answered ≡ ending.answer d)) ⊎ (WriteFailed (ending.writes d) read after × (answered ≡ ending.unwritten d))

-- The same where memory may run out before the first byte is written: then that refusal is written and answered.
abbrev pub EndsWith : {D E A : Type 0} → Ending D E A → (no_memory : E) → Result D E → (read after : Outside) → A → Type 0
EndsWith ending no_memory d read after answered = Written ending d read after answered ⊎ Written ending (Err no_memory) read after answered

-- This is so of a decision, or memory ran out.
abbrev pub UnlessFull : {D E : Type 0} → (no_memory : E) → (is : Result D E → Type 0) → Result D E → Type 0
UnlessFull no_memory is d = is d ⊎ (d ≡ Err no_memory)

module _ {G D E A : Type 0} (call : TopCall G D E A) where
  -- what is given asks for this, or the refusal is what is asked for
  abbrev pub DecidesBy : Result G E → Result D E → Type 0
  DecidesBy (Ok given) d = call.delivers given d
  DecidesBy (Err refusal) d = d ≡ Err refusal

  -- what files and input ask for
  abbrev pub Decides : Reading G E → Disk → (input : List ℕ) → Result D E → Type 0
  Decides reading disk input d = DecidesBy (given_by call.refusal reading disk input) d

  -- This was decided, at its place and for its reason, told or not; nothing else was read, and nothing was written. Memory may run out anywhere.
  abbrev pub Decided : Reading G E → (before now : Outside) → Result D E → Type 0
  Decided (all_read result) before now d = (now ≡ before) × UnlessFull (call.refusal NoMemory) (DecidesBy result) d
  Decided (a_file name limit next) before now d =
      ((why : Unread) × FileRead name limit before now (Err why) × (d ≡ Err (call.refusal why)))
      ⊎ ((bytes : List ℕ) × (then : Outside) × FileRead name limit before then (Ok bytes) × Decided (next bytes) then now d)
  Decided (the_input next) before now d =
      ((why : Unread) × InputRead before now (Err why) × (d ≡ Err (call.refusal why)))
      ⊎ ((bytes : List ℕ) × (then : Outside) × InputRead before then (Ok bytes) × Decided (next bytes) then now d)

  -- Something was decided, and that was written and answered.
  pub record Delivered (reading : Reading G E) (before after : Outside) (answered : A) : Type 0 where
    pub decision : Result D E
    pub read : Outside
    pub decided : Decided reading before read decision
    pub written : Written call.ending decision read after answered

  -- What files and input ask for is answered, and all of it is written.
  pub record AllDone (reading : Reading G E) (disk : Disk) (input : List ℕ) (before after : Outside) (answered : A) : Type 0 where
    pub decision : Result D E
    pub decides : Decides reading disk input decision
    pub answer : answered ≡ call.ending.answer decision
    pub read : Outside
    pub only : OnlyRead before read
    pub written : AllWritten (call.ending.writes decision) read after

  -- Why it isn't: something could not be read, or not be written, or memory ran out. The answer says so.
  pub data Excused (before after : Outside) (answered : A) : Type 0 where
    unread : (name : List ℕ) → answered ≡ call.ending.answer (Err (call.refusal (Failed name))) → Rose before.takes after.takes ⊎ Rose before.reads after.reads → Excused before after answered
    unwritten : (d : Result D E) → (read : Outside) → answered ≡ call.ending.unwritten d → OnlyRead before read → WriteFailed (call.ending.writes d) read after → Excused before after answered
    out_of_memory : answered ≡ call.ending.answer (Err (call.refusal NoMemory)) → Excused before after answered

  -- Where files and input tell, the answer is the one that they ask for and all of it is written, but for a fault of a device
  -- and when out of memory.
  abbrev pub Settled : Reading G E → (before after : Outside) → A → Type 0
  Settled reading before after answered = Told before (λ disk input. AllDone reading disk input before after answered ⊎ Excused before after answered)
