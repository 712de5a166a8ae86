-- What a call that runs a program writes and answers after a decision.
use Rattle.std.specs.Prelude.{◌≡◌, ◌⊎◌, ℕ, List, [], ◌∷◌, ◌++◌, Result, Ok, Err, if◌then◌else◌}
use Rattle.top_call.specs.declared.reading.Unread.{Unread}
use Rattle.top_call.specs.declared.reading.Unread.TheVariants as unread
use Rattle.top_call.specs.Call.{TopCall, Ending}
use Rattle.top_call.specs.Outside.{Outside}
use Rattle.top_call.specs.Writing.{Write, to_out, to_err, AllWritten, WriteFailed}
use Rattle.report.specs.declared.answer.Answer.{Answer}
use Rattle.report.specs.declared.answer.Ended.{Ended}
use Rattle.report.specs.declared.answer.Ended.TheVariants.{Ran, ReadFault, TooLong, WriteFault, NoMemory}
use Rattle.report.specs.declared.writing.Delivery.{Delivery}
use Rattle.report.specs.declared.writing.Writing.{Writing}
use Rattle.report.specs.declared.writing.Writing.TheVariants.{Run, Refusal}
use Rattle.report.specs.Answer.{status_of, line_of}

-- the refusal where something isn't read
abbrev pub refusal_of : Unread → Ended
refusal_of (unread.Failed name) = ReadFault name
refusal_of (unread.TooLong name) = TooLong name
refusal_of unread.NoMemory = NoMemory

-- the report, where it is to be shown
abbrev pub shown_of : Delivery → List ℕ
shown_of delivery = if delivery.shown then delivery.report else []

-- the bytes for the second output: the guest's own, the report where it is to be shown, and the last line
abbrev pub err_of : Delivery → List ℕ
err_of delivery = (delivery.err ++ shown_of delivery) ++ line_of (Ran delivery.outcome)

-- The guest's own bytes to the first output, and then those to the second; after a refusal the last line alone.
abbrev pub writes_of : Result Delivery Ended → List Write
writes_of (Ok delivery) = to_out delivery.out ∷ to_err (err_of delivery) ∷ []
writes_of (Err ended) = to_err (line_of ended) ∷ []

abbrev pub answer_by : Ended → (report : List ℕ) → Answer
answer_by ended report = record { status = status_of ended; ended = ended; report = report }

-- the answer where all of this is written, which has the report of a run, shown or not
abbrev pub answer_of : Result Delivery Ended → Answer
answer_of (Ok delivery) = answer_by (Ran delivery.outcome) delivery.report
answer_of (Err ended) = answer_by ended []

-- the answer where it can't be
abbrev pub unwritten_of : Result Delivery Ended → Answer
unwritten_of (Err NoMemory) = answer_by NoMemory []
unwritten_of _ = answer_by WriteFault []

-- how a call ends that runs a program
abbrev pub run_ending : Ending Delivery Ended Answer
run_ending = record { writes = writes_of; answer = answer_of; unwritten = unwritten_of }

-- a call that runs a program, by what it delivers
abbrev pub running : {G : Type 0} → (G → Result Delivery Ended → Type 0) → TopCall G Delivery Ended Answer
running delivers = record { delivers = delivers; refusal = refusal_of; ending = run_ending }

-- ---- the texts of a decision, made before the first byte is written
abbrev pub writing_of : Result Delivery Ended → Writing
writing_of (Ok delivery) = Run delivery.outcome delivery.out (err_of delivery) delivery.report
writing_of (Err ended) = Refusal ended (line_of ended)

abbrev pub writes_in : Writing → List Write
writes_in (Run outcome out err report) = to_out out ∷ to_err err ∷ []
writes_in (Refusal ended line) = to_err line ∷ []

abbrev pub answer_in : Writing → Answer
answer_in (Run outcome out err report) = answer_by (Ran outcome) report
answer_in (Refusal ended line) = answer_by ended []

abbrev pub Answers : Writing → (before now : Outside) → Answer → Type 0
Answers writing before now answer =
    (AllWritten (writes_in writing) before now × (answer ≡ answer_in writing)) ⊎ (WriteFailed (writes_in writing) before now × (answer ≡ answer_by WriteFault []))
