-- What `live` promises of its words, of what is known of files, input and outputs before it and after it, and of its answer.
use Rattle.std.specs.Prelude.{◌≡◌, ◌≢◌, ◌⊎◌, ℕ, List, [], Option, Some, None}
use Rattle.std.specs.Option.{ForSome}
use Rattle.oc_base.specs.Outside.{Disk, Rose, RoseAtMost, gained, GainedPart, LostPart, TakeFailed, HasNow, SameElsewhere}
use Rattle.top_call.specs.Call.{Settled, Delivered}
use Rattle.top_call.specs.Outside.{Outside, Told}
use Rattle.top_call.specs.Reading.{input_name}
use Rattle.machine.specs.declared.outcome.Outcome.{Outcome}
use Rattle.machine.specs.declared.outcome.Outcome.TheVariants.{Unfinished, Limit}
use Rattle.sched_log.specs.declared.event.Event.{Event}
use Rattle.pacing.specs.Clocks.{reals}
use Rattle.report.specs.Answer.{status_of}
use Rattle.report.specs.Cause.{err_of}
use Rattle.report.specs.declared.answer.Ended.{Ended}
use Rattle.report.specs.declared.answer.Ended.TheVariants.{Ran, Usage, ReadFault, Script, WriteFault}
use Rattle.live_words.specs.Words.{words_of}
use Rattle.live_words.specs.declared.words.Words.{Words}
use Rattle.live.specs.declared.life.Life.{Life}
use Rattle.live.specs.declared.life.RecordFile.{RecordFile}
use Rattle.live.specs.declared.lived.Lived.{Lived}
use Rattle.live.specs.Decision.{Asked, live, reading_of, names_of, read_of, AsksFor, IsLife}
use Rattle.live.specs.Lives.{ReachesLimit}

-- The file of the record holds it now, if there is one, and every other file has what it had.
abbrev pub Filed : Option RecordFile → (before now : Option Disk) → Type 0
Filed None before now = now ≡ before
Filed (Some r) before now = HasNow before now r.name r.text × SameElsewhere before now r.name

-- The answer, the log and the count are those of a run.
pub record IsOf (life : Life) (lived : Lived) : Type 0 where
  pub outcome : lived.answer.ended ≡ Ran life.delivery.outcome
  pub report : lived.answer.report ≡ life.delivery.report
  pub log : lived.log ≡ life.log
  pub shares : lived.shares ≡ life.shares

-- These bytes ask for a run, which is the original machine's; all that it delivers is written, in order, and answered, with its log; and
-- nothing is left of the input.
pub record AnswersRun (words : List (List ℕ)) (disk : Disk) (input : List ℕ) (before after : Outside) (lived : Lived) : Type 0 where
  pub life : Life
  pub asked : AsksFor words disk input life
  pub answer : IsOf life lived
  pub out : after.out ≡ gained before.out life.delivery.out
  pub recorded : Filed life.file before.disk after.disk
  pub err : after.err ≡ gained before.err (err_of life.delivery)
  pub left : ForSome after.left (λ left. left ≡ [])

-- Bytes may not be told. Those of some program and of some input gave this run, on the words' terms.
pub record IsLifeOf (words : List (List ℕ)) (life : Life) : Type 0 where
  pub asked : Asked
  pub said : words_of words ≡ Some asked.said
  pub is : IsLife asked life

-- The cause of an end at the limit: some run on the words' terms, with this log, has no outcome and has come to the words' limit.
pub record AtLimit (words : List (List ℕ)) (most : ℕ) (log : List Event) : Type 0 where
  pub life : Life
  pub run : IsLifeOf words life
  pub log_is : log ≡ life.log
  pub most_is : most ≡ run.asked.said.limit
  pub none : run.is.lived.world.machine.outcome ≡ None
  pub reached : ReachesLimit most log

-- The cause of each end, told or not: a run, where the call stopped reading, or which device failed. After a fault of writing the log is
-- that of a run too, or there was none.
abbrev pub Cause : (words : List (List ℕ)) → (before after : Outside) → Lived → Ended → Type 0
Cause words before after lived (Ran outcome) =
    ((life : Life) × IsLifeOf words life × IsOf life lived) × (after.asked ≡ gained before.asked (names_of words)) × ForSome after.left (λ left. left ≡ [])
Cause words before after lived Usage = (words_of words ≡ None) × (after.asked ≡ before.asked) × (after.left ≡ before.left)
Cause words before after lived (ReadFault name) = TakeFailed name after.asked before.takes after.takes ⊎ ((name ≡ input_name) × Rose before.reads after.reads)
Cause words before after lived WriteFault =
    (Rose before.outs after.outs ⊎ (Rose before.puts after.puts ⊎ Rose before.errs after.errs))
    × (((life : Life) × IsLifeOf words life × (lived.log ≡ life.log) × (lived.shares ≡ life.shares)) ⊎ (lived.log ≡ []))
Cause words before after lived (Script fault) = ⊥
Cause words before after lived _ = Unit {0}

-- where the words name no file for a record, no file changes, and otherwise none but that one
abbrev pub OnlyFile : Option (List ℕ) → (before now : Option Disk) → Type 0
OnlyFile None before now = now ≡ before
OnlyFile (Some name) before now = SameElsewhere before now name

abbrev pub record_name : Option Words → Option (List ℕ)
record_name None = None
record_name (Some said) = said.log_name

-- an end at which no run was to be written
abbrev pub IsRefusal : Ended → Type 0
IsRefusal (Ran outcome) = ⊥
IsRefusal WriteFault = ⊥
IsRefusal _ = Unit {0}

-- The files are asked for the words' names alone, each once and in order, and for the record's only where it is written; the input loses
-- a first part. Each device fails once at most, and one that can't fail doesn't.
pub record Devices (words : List (List ℕ)) (before after : Outside) (ended : Ended) : Type 0 where
  pub asked : GainedPart before.asked after.asked (names_of words)
  pub read : IsRefusal ended → GainedPart before.asked after.asked (read_of words)
  pub disk : OnlyFile (record_name (words_of words)) before.disk after.disk
  pub unwritten : IsRefusal ended → (after.disk ≡ before.disk) × (after.out ≡ before.out) × (after.puts ≡ before.puts)
  pub input : LostPart before.left after.left
  pub takes : RoseAtMost before.takes after.takes
  pub puts : RoseAtMost before.puts after.puts
  pub reads : RoseAtMost before.reads after.reads
  pub outs : RoseAtMost before.outs after.outs
  pub errs : RoseAtMost before.errs after.errs

-- where no run is answered, no report is
abbrev pub Unreported : Ended → (report : List ℕ) → Type 0
Unreported (Ran outcome) report = Unit {0}
Unreported _ report = report ≡ []

pub record Promise (words : List (List ℕ)) (before after : Outside) (lived : Lived) : Type 0 where
  -- Where files and input tell, a run that is answered is the original machine's, and all that it delivers is written.
  pub headline : (outcome : Outcome) → lived.answer.ended ≡ Ran outcome → Told before (λ disk input. AnswersRun words disk input before after lived)
  -- Where files and input tell, something that they ask for is answered and written, but for a fault of a device and when out of memory.
  pub settled : Settled live (reading_of words) before after lived
  -- Told or not, each end has its cause;
  pub causes : Cause words before after lived lived.answer.ended
  -- the limit is answered only where a run came to it;
  pub limit : (most : ℕ) → lived.answer.ended ≡ Ran (Limit most) → AtLimit words most lived.log
  -- what was decided, at its place and for its reason, is written up to a fault;
  pub written : Delivered live (reading_of words) before after lived
  pub devices : Devices words before after lived.answer.ended
  pub status : lived.answer.status ≡ status_of lived.answer.ended
  pub report : Unreported lived.answer.ended lived.answer.report
  -- no run ends for want of events
  pub never : lived.answer.ended ≢ Ran Unfinished
  -- a refusal has no log, and the workers' count is always the log's
  pub unlogged : IsRefusal lived.answer.ended → lived.log ≡ []
  pub shares : lived.shares ≡ reals lived.log
