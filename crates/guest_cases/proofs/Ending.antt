-- How a call ends whose devices can't fail.
use Rattle.std.proofs.Common.{◌≡◌, ◌≢◌, ℕ, List, Some, Result, Ok, Err, inl, inr, ap, subst}
use Rattle.std.specs.Prelude.{◌⊎◌}
use Rattle.oc_base.specs.Outside.{Disk, Rose}
use Rattle.top_call.specs.Call.{AllDone, Excused, unread, unwritten, out_of_memory}
use Rattle.top_call.specs.Outside.{Outside}
use Rattle.report.specs.Cause.{unwritten_of}
use Rattle.report.specs.declared.answer.Answer.{Answer}
use Rattle.report.specs.declared.answer.Ended.{Ended}
use Rattle.report.specs.declared.answer.Ended.TheVariants.{Ran, Usage, ReadFault, TooLong, Program, Script, WriteFault, NoMemory}
use Rattle.report.specs.declared.writing.Delivery.{Delivery}
use Rattle.play.specs.Decision.{play, reading_of}
use Rattle.play.specs.Promise.{Cause, Promise}
use Rattle.guest_cases.specs.Sure.{EndsAsAsked}

module _ {words : List (List ℕ)} {before after : Outside} {answer : Answer} (is_promised : Promise words before after answer) where
  -- no end has a fault of a device as its cause
  pub never_unread : (Rose before.takes after.takes → ⊥) → (Rose before.reads after.reads → ⊥) → (name : List ℕ) → answer.ended ≢ ReadFault name
  never_unread takes reads name is = by_cause (subst (Cause words before after) is is_promised.causes)
    where
      by_cause : Cause words before after (ReadFault name) → ⊥
      by_cause (inl failed) = takes failed.rose
      by_cause (inr failed) = reads failed.1

  pub never_unwritten : (Rose before.outs after.outs → ⊥) → (Rose before.errs after.errs → ⊥) → answer.ended ≢ WriteFault
  never_unwritten outs errs is = by_cause (subst (Cause words before after) is is_promised.causes)
    where
      by_cause : Cause words before after WriteFault → ⊥
      by_cause (inl failed) = outs failed
      by_cause (inr failed) = errs failed

  -- so it ends as asked, or it is out of memory
  pub ends_as_asked : (disk : Disk) (input : List ℕ) → before.disk ≡ Some disk → before.left ≡ Some input
      → ((name : List ℕ) → answer.ended ≢ ReadFault name) → answer.ended ≢ WriteFault → answer.ended ≢ NoMemory → EndsAsAsked words disk input answer
  ends_as_asked disk input has left read written memory = by_end (is_promised.settled disk has input left)
    where
      by_decision : (d : Result Delivery Ended) → answer ≡ unwritten_of d → ⊥
      by_decision (Ok d) is = written (ap (λ (a : Answer). a.ended) is)
      by_decision (Err NoMemory) is = memory (ap (λ (a : Answer). a.ended) is)
      by_decision (Err (Ran outcome)) is = written (ap (λ (a : Answer). a.ended) is)
      by_decision (Err Usage) is = written (ap (λ (a : Answer). a.ended) is)
      by_decision (Err (ReadFault name)) is = written (ap (λ (a : Answer). a.ended) is)
      by_decision (Err (TooLong name)) is = written (ap (λ (a : Answer). a.ended) is)
      by_decision (Err (Program fault)) is = written (ap (λ (a : Answer). a.ended) is)
      by_decision (Err (Script fault)) is = written (ap (λ (a : Answer). a.ended) is)
      by_decision (Err WriteFault) is = written (ap (λ (a : Answer). a.ended) is)

      by_end : AllDone play (reading_of words) disk input before after answer ⊎ Excused play before after answer → EndsAsAsked words disk input answer
      by_end (inl done) = record { decision = done.decision; decides = done.decides; answered = done.answer }
      by_end (inr (unread name is rose)) = absurd (read name (ap (λ (a : Answer). a.ended) is))
      by_end (inr (unwritten d then is only failed)) = absurd (by_decision d is)
      by_end (inr (out_of_memory is)) = absurd (memory (ap (λ (a : Answer). a.ended) is))
