-- What `look` promises of its words, of what is known of files, input and outputs before it and after it, and of its answer.
use Rattle.std.specs.Prelude.{◌≡◌, ◌≢◌, ◌⊎◌, ℕ, List, codes, Option, Some, None, Result, Ok}
use Rattle.oc_base.specs.Outside.{Disk, Rose, RoseAtMost, gained, GainedPart, Gains, LostPart, HasNow, SameElsewhere, TakeFailed}
use Rattle.top_call.specs.Call.{Settled, Delivered}
use Rattle.top_call.specs.Outside.{Outside, Told}
use Rattle.top_call.specs.Reading.{input_name}
use Rattle.look_words.specs.Words.{words_of, inputs_of, names_of}
use Rattle.look.specs.declared.answer.Answer.{Answer}
use Rattle.look.specs.declared.answer.Looked.{Looked}
use Rattle.look.specs.declared.answer.Looked.TheVariants as looked
use Rattle.look.specs.declared.decision.Drawn.{Drawn}
use Rattle.look.specs.declared.decision.Refusal.{Refusal}
use Rattle.look.specs.declared.decision.Seen.{Seen}
use Rattle.look.specs.Answer.{status_of}
use Rattle.look.specs.Decision.{look, reading_of, Decides}

-- a picture's file holds it now, and every other file has what it had
abbrev pub Holds : Option Drawn → (before after : Outside) → Type 0
Holds None before after = after.disk ≡ before.disk
Holds (Some picture) before after = HasNow before.disk after.disk picture.name picture.bytes × SameElsewhere before.disk after.disk picture.name

-- these bytes ask for a text, and perhaps a picture, and both are written
pub record Shown (words : List (List ℕ)) (disk : Disk) (input : List ℕ) (before after : Outside) : Type 0 where
  pub seen : Seen
  pub asked : Decides words disk input (Ok seen)
  pub out : after.out ≡ gained before.out seen.text
  pub err : after.err ≡ before.err
  pub files : Holds seen.picture before after

-- The cause of each end, told or not, and the names that the files were asked for by then: none after `Usage`, after a refusal what the
-- words read, and after `Done` the picture's too.
abbrev pub Cause : (words : List (List ℕ)) → (before after : Outside) → Looked → Type 0
Cause words before after looked.Done = after.asked ≡ gained before.asked (names_of words)
Cause words before after looked.Usage = (words_of words ≡ None) × (after.asked ≡ before.asked)
Cause words before after looked.ReadFault =
    ((name : List ℕ) × (TakeFailed name after.asked before.takes after.takes ⊎ ((name ≡ input_name) × Rose before.reads after.reads))) × GainedPart before.asked after.asked (inputs_of words)
Cause words before after looked.WriteFault =
    (Rose before.puts after.puts ⊎ (Rose before.outs after.outs ⊎ Rose before.errs after.errs)) × GainedPart before.asked after.asked (names_of words)
Cause words before after looked.NoMemory = Gains before.err after.err (Rose before.errs after.errs) (codes "ocolos_look: out of memory\n") × GainedPart before.asked after.asked (inputs_of words)
Cause words before after looked.TooLong = GainedPart before.asked after.asked (inputs_of words)
Cause words before after _ = after.asked ≡ gained before.asked (inputs_of words)

-- Files and `out` change by `Done` and a fault of writing alone, and the input loses a first part. Each device fails once at most, and
-- one that can't fail doesn't.
pub record Devices (before after : Outside) (what : Looked) : Type 0 where
  pub disk : what ≢ looked.Done → what ≢ looked.WriteFault → after.disk ≡ before.disk
  pub out : what ≢ looked.Done → what ≢ looked.WriteFault → after.out ≡ before.out
  pub input : LostPart before.left after.left
  pub takes : RoseAtMost before.takes after.takes
  pub puts : RoseAtMost before.puts after.puts
  pub reads : RoseAtMost before.reads after.reads
  pub outs : RoseAtMost before.outs after.outs
  pub errs : RoseAtMost before.errs after.errs

pub record Promise (words : List (List ℕ)) (before after : Outside) (answer : Answer) : Type 0 where
  -- Where files and input tell: after `Done` what is to be seen of the program that the words name, or of its run, is written.
  pub headline : answer.what ≡ looked.Done → Told before (λ disk input. Shown words disk input before after)
  -- Where they tell, what words, files and input ask for is answered and written, but for a fault of a device and when out of memory.
  pub settled : Settled look (reading_of words) before after answer
  -- They ask for one thing.
  pub one : (disk : Disk) (input : List ℕ) (d e : Result Seen Refusal) → Decides words disk input d → Decides words disk input e → d ≡ e
  -- Told or not, each end has its cause;
  pub causes : Cause words before after answer.what
  -- what was decided, at its place and for its reason, is written up to a fault;
  pub written : Delivered look (reading_of words) before after answer
  pub devices : Devices before after answer.what
  pub status : answer.status ≡ status_of answer.what
