-- What `play` promises of its words, of what is known of files, input and outputs before it and after it, and of its answer.
use Rattle.std.specs.Prelude.{◌≡◌, ◌⊎◌, ℕ, List, [], None, Result, Ok}
use Rattle.std.specs.Option.{ForSome}
use Rattle.oc_base.specs.Outside.{Disk, Rose, RoseAtMost, gained, GainedPart, LostPart, TakeFailed}
use Rattle.top_call.specs.Call.{Settled, Delivered}
use Rattle.top_call.specs.Outside.{Outside, Told}
use Rattle.top_call.specs.Reading.{input_name}
use Rattle.machine.specs.declared.outcome.Outcome.{Outcome}
use Rattle.play_words.specs.Words.{words_of, names_of}
use Rattle.report.specs.Answer.{status_of}
use Rattle.report.specs.Cause.{err_of}
use Rattle.report.specs.declared.answer.Answer.{Answer}
use Rattle.report.specs.declared.answer.Ended.{Ended}
use Rattle.report.specs.declared.answer.Ended.TheVariants.{Ran, Usage, ReadFault, WriteFault}
use Rattle.report.specs.declared.writing.Delivery.{Delivery}
use Rattle.play.specs.Decision.{play, reading_of, Decides}
use Rattle.play.specs.Originals.{RunsOriginally}

-- These bytes ask for a run, it is the original machine's, all that it delivers is written and answered, and nothing is left of the
-- input.
pub record AnswersRun (words : List (List ℕ)) (disk : Disk) (input : List ℕ) (before after : Outside) (answer : Answer) : Type 0 where
  pub delivery : Delivery
  pub asked : Decides words disk input (Ok delivery)
  pub original : RunsOriginally words disk input delivery
  pub outcome : answer.ended ≡ Ran delivery.outcome
  pub report : answer.report ≡ delivery.report
  pub out : after.out ≡ gained before.out delivery.out
  pub err : after.err ≡ gained before.err (err_of delivery)
  pub left : ForSome after.left (λ left. left ≡ [])

-- The cause of each end, told or not: where the call stopped reading, or which device failed.
abbrev pub Cause : (words : List (List ℕ)) → (before after : Outside) → Ended → Type 0
Cause words before after (Ran outcome) = (after.asked ≡ gained before.asked (names_of words)) × ForSome after.left (λ left. left ≡ [])
Cause words before after Usage = (words_of words ≡ None) × (after.asked ≡ before.asked) × (after.left ≡ before.left)
Cause words before after (ReadFault name) = TakeFailed name after.asked before.takes after.takes ⊎ ((name ≡ input_name) × Rose before.reads after.reads)
Cause words before after WriteFault = Rose before.outs after.outs ⊎ Rose before.errs after.errs
Cause words before after _ = Unit {0}

-- The files are asked for the words' names alone, each once and in order, and keep what they have; the input loses a first part. Each
-- device fails once at most, and one that can't fail doesn't.
pub record Devices (words : List (List ℕ)) (before after : Outside) : Type 0 where
  pub asked : GainedPart before.asked after.asked (names_of words)
  pub disk : after.disk ≡ before.disk
  pub puts : after.puts ≡ before.puts
  pub input : LostPart before.left after.left
  pub takes : RoseAtMost before.takes after.takes
  pub reads : RoseAtMost before.reads after.reads
  pub outs : RoseAtMost before.outs after.outs
  pub errs : RoseAtMost before.errs after.errs

-- where no run is answered, no report is
abbrev pub Unreported : Ended → (report : List ℕ) → Type 0
Unreported (Ran outcome) report = Unit {0}
Unreported _ report = report ≡ []

pub record Promise (words : List (List ℕ)) (before after : Outside) (answer : Answer) : Type 0 where
  -- Where files and input tell, a run that is answered is the original machine's, and all that it delivers is written.
  pub headline : (outcome : Outcome) → answer.ended ≡ Ran outcome → Told before (λ disk input. AnswersRun words disk input before after answer)
  -- Whatever the script moves, any run that is asked for is that of the original machine, with the steps of layouts left out.
  pub original : (disk : Disk) (input : List ℕ) (d : Delivery) → Decides words disk input (Ok d) → RunsOriginally words disk input d
  -- Where files and input tell, what they ask for is answered and written, but for a fault of a device and when out of memory.
  pub settled : Settled play (reading_of words) before after answer
  -- They ask for one thing.
  pub one : (disk : Disk) (input : List ℕ) (d e : Result Delivery Ended) → Decides words disk input d → Decides words disk input e → d ≡ e
  -- Told or not, each end has its cause;
  pub causes : Cause words before after answer.ended
  -- what was decided, at its place and for its reason, is written up to a fault;
  pub written : Delivered play (reading_of words) before after answer
  pub devices : Devices words before after
  pub status : answer.status ≡ status_of answer.ended
  pub report : Unreported answer.ended answer.report
