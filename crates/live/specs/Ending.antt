-- What a call that runs a program by threads writes and answers after a decision.
use Rattle.std.specs.Prelude.{List, [], ◌∷◌, ◌++◌, Option, Some, None, Result, Ok, Err}
use Rattle.top_call.specs.Call.{Ending}
use Rattle.top_call.specs.Writing.{Write, to_out, to_err, to_file}
use Rattle.report.specs.Answer.{line_of}
use Rattle.report.specs.Cause.{err_of, answer_by}
use Rattle.report.specs.declared.answer.Answer.{Answer}
use Rattle.report.specs.declared.answer.Ended.{Ended}
use Rattle.report.specs.declared.answer.Ended.TheVariants.{Ran, WriteFault, NoMemory}
use Rattle.live.specs.declared.life.Life.{Life}
use Rattle.live.specs.declared.life.RecordFile.{RecordFile}
use Rattle.live.specs.declared.lived.Lived.{Lived}

-- the file of the record, if it is written
abbrev pub record_writes : Option RecordFile → List Write
record_writes None = []
record_writes (Some r) = to_file r.name r.text ∷ []

-- The guest's own bytes to the first output, then the record, and then the bytes for the second output; after a refusal the last line alone.
abbrev pub writes_of : Result Life Ended → List Write
writes_of (Ok life) = to_out life.delivery.out ∷ (record_writes life.file ++ to_err (err_of life.delivery) ∷ [])
writes_of (Err ended) = to_err (line_of ended) ∷ []

-- with the log of a run
abbrev pub lived_by : Life → Answer → Lived
lived_by life answer = record { answer = answer; log = life.log; shares = life.shares }

-- without a run
abbrev pub unlived : Answer → Lived
unlived answer = record { answer = answer; log = []; shares = 0 }

-- the answer where all of this is written
abbrev pub answer_of : Result Life Ended → Lived
answer_of (Ok life) = lived_by life (answer_by (Ran life.delivery.outcome) life.delivery.report)
answer_of (Err ended) = unlived (answer_by ended [])

-- the answer where it can't be
abbrev pub unwritten_of : Result Life Ended → Lived
unwritten_of (Ok life) = lived_by life (answer_by WriteFault [])
unwritten_of (Err NoMemory) = unlived (answer_by NoMemory [])
unwritten_of (Err _) = unlived (answer_by WriteFault [])

abbrev pub lived_ending : Ending Life Ended Lived
lived_ending = record { writes = writes_of; answer = answer_of; unwritten = unwritten_of }
