-- How a decision ends, step by step.
use Rattle.std.proofs.Common.{◌≡◌, ◌≢◌, inl, inr, [], Result, Ok, Err, refl, subst}
use Rattle.oc_base.specs.declared.fault.Failed.{Failed}
use Rattle.top_call.specs.Call.{Written}
use Rattle.top_call.specs.Outside.{Outside}
use Rattle.top_call.specs.Writing.{to_err, Wrote}
use Rattle.report.specs.declared.answer.Answer.{Answer}
use Rattle.report.specs.declared.answer.Ended.{Ended}
use Rattle.report.specs.declared.answer.Ended.TheVariants.{Ran, Usage, ReadFault, TooLong, Program, Script, WriteFault, NoMemory}
use Rattle.report.specs.declared.writing.Delivery.{Delivery}
use Rattle.report.specs.declared.writing.Writing.{Writing}
use Rattle.report.specs.Answer.{line_of}
use Rattle.report.specs.Cause.{answer_by, run_ending, writing_of, Answers}

-- and that of a call that ran out of memory
pub gave_up : (a b : Outside) (result : Result Unit Failed) (answer : Answer) → Wrote (to_err (line_of NoMemory)) a b result → answer ≡ answer_by NoMemory [] → Written run_ending (Err NoMemory) a b answer
gave_up a b (Ok done) answer wrote is = inl ((b, wrote, refl), is)
gave_up a b (Err failed) answer wrote is = inr (inl wrote, is)

-- what is written of a decision's texts is written of the decision
ends : (d : Result Delivery Ended) (a b : Outside) (answer : Answer) → d ≢ Err NoMemory → Answers (writing_of d) a b answer → Written run_ending d a b answer
ends (Ok delivery) a b answer memory is = is
ends (Err (Ran outcome)) a b answer memory is = is
ends (Err Usage) a b answer memory is = is
ends (Err (ReadFault name)) a b answer memory is = is
ends (Err (TooLong name)) a b answer memory is = is
ends (Err (Program fault)) a b answer memory is = is
ends (Err (Script fault)) a b answer memory is = is
ends (Err WriteFault) a b answer memory is = is
ends (Err NoMemory) a b answer memory is = absurd (memory refl)

pub ends_as : (d : Result Delivery Ended) (writing : Writing) (a b : Outside) (answer : Answer) → writing ≡ writing_of d → d ≢ Err NoMemory → Answers writing a b answer → Written run_ending d a b answer
ends_as d writing a b answer laid memory is = ends d a b answer memory (subst (λ w. Answers w a b answer) laid is)
