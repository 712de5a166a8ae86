-- What a call reads before it decides: whole files and the input, each within its limit.
use Rattle.std.specs.Prelude.{◌≡◌, ℕ, List, [], length, codes, Option, Some, None, Result, Ok, Err, nat_lt, if◌then◌else◌}
use Rattle.std.specs.Option.{ForSome}
use Rattle.oc_base.specs.Outside.{Disk, Rose, RoseAtMost, Asks, LostPart}
use Rattle.top_call.specs.declared.reading.Unread.{Unread}
use Rattle.top_call.specs.declared.reading.Unread.TheVariants.{Failed, TooLong, NoMemory}
use Rattle.top_call.specs.Outside.{Outside}

-- What is read, in order: nothing more, and this is given or refused; or a file of a name; or the input; and then what its bytes say.
pub data Reading (G E : Type 0) : Type 0 where
  all_read : Result G E → Reading G E
  a_file : (name : List ℕ) → (limit : ℕ) → (List ℕ → Reading G E) → Reading G E
  the_input : (List ℕ → Reading G E) → Reading G E

-- the bytes that have this name, if there are any and they aren't more than the limit
abbrev pub within : List ℕ → ℕ → Option (List ℕ) → Result (List ℕ) Unread
within name limit None = Err (Failed name)
within name limit (Some bytes) = if nat_lt limit (length bytes) then Err (TooLong name) else Ok bytes

-- the most bytes of an input
abbrev pub input_limit : ℕ
input_limit = 16777216

-- the name of the input in an answer
abbrev pub input_name : List ℕ
input_name = codes "input"

-- all of the input
abbrev pub input_within : List ℕ → Result (List ℕ) Unread
input_within all = within input_name input_limit (Some all)

-- what is done with the bytes, or the refusal for which there are none
abbrev pub given_then : {G E : Type 0} → (refusal : Unread → E) → Result (List ℕ) Unread → (List ℕ → Result G E) → Result G E
given_then refusal (Ok bytes) next = next bytes
given_then refusal (Err why) next = Err (refusal why)

-- what files and an input give, or the first refusal; nothing is left of an input that was read
abbrev pub given_by : {G E : Type 0} → (refusal : Unread → E) → Reading G E → Disk → (input : List ℕ) → Result G E
given_by refusal (all_read result) disk input = result
given_by refusal (a_file name limit next) disk input = given_then refusal (within name limit (disk name)) (λ bytes. given_by refusal (next bytes) disk input)
given_by refusal (the_input next) disk input = given_then refusal (input_within input) (λ bytes. given_by refusal (next bytes) disk [])

-- Why the file of this name was given or not: to run out of memory needs no reason.
abbrev pub FileCause : (name : List ℕ) (limit : ℕ) (before now : Outside) → Result (List ℕ) Unread → Type 0
FileCause name limit before now (Ok bytes) = ForSome before.disk (λ disk. within name limit (disk name) ≡ Ok bytes) × (now.takes ≡ before.takes)
FileCause name limit before now (Err (Failed given)) = (given ≡ name) × Rose before.takes now.takes
FileCause name limit before now (Err (TooLong given)) = (given ≡ name) × ForSome before.disk (λ disk. within name limit (disk name) ≡ Err (TooLong name)) × (now.takes ≡ before.takes)
FileCause name limit before now (Err NoMemory) = RoseAtMost before.takes now.takes

-- The file of this name was read. It was asked for, unless there was no room for its name, and nothing else happened.
pub record FileRead (name : List ℕ) (limit : ℕ) (before now : Outside) (result : Result (List ℕ) Unread) : Type 0 where
  pub cause : FileCause name limit before now result
  pub asked : Asks NoMemory before.asked now.asked name result
  pub rest : now ≡ record before { asked = now.asked; takes = now.takes }

-- Why the input was given or not.
abbrev pub InputCause : (before now : Outside) → Result (List ℕ) Unread → Type 0
InputCause before now (Ok bytes) = ForSome before.left (λ all. input_within all ≡ Ok bytes) × ForSome now.left (λ left. left ≡ []) × (now.reads ≡ before.reads)
InputCause before now (Err (Failed given)) = (given ≡ input_name) × Rose before.reads now.reads
InputCause before now (Err (TooLong given)) = (given ≡ input_name) × ForSome before.left (λ all. input_within all ≡ Err (TooLong input_name)) × (now.reads ≡ before.reads)
InputCause before now (Err NoMemory) = RoseAtMost before.reads now.reads

-- The input was read. A first part of it is gone, and nothing else happened.
pub record InputRead (before now : Outside) (result : Result (List ℕ) Unread) : Type 0 where
  pub cause : InputCause before now result
  pub left : LostPart before.left now.left
  pub rest : now ≡ record before { left = now.left; reads = now.reads }
