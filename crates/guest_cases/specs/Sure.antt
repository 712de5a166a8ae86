-- Files of which none is missing, and how a call over devices that can't fail ends.
use Rattle.std.specs.Prelude.{◌≡◌, ℕ, List, [], Some, Result, unwrap_or}
use Rattle.oc_base.specs.Outside.{Disk}
use Rattle.report.specs.Cause.{answer_of}
use Rattle.report.specs.declared.answer.Answer.{Answer}
use Rattle.report.specs.declared.answer.Ended.{Ended}
use Rattle.report.specs.declared.writing.Delivery.{Delivery}
use Rattle.play.specs.Decision.{Decides}

-- a file that isn't there has no bytes
abbrev pub filled : Disk → Disk
filled disk name = Some (unwrap_or (disk name) [])

-- The answer is that of what words, files and input ask for.
pub record EndsAsAsked (words : List (List ℕ)) (disk : Disk) (input : List ℕ) (answer : Answer) : Type 0 where
  pub decision : Result Delivery Ended
  pub decides : Decides words disk input decision
  pub answered : answer ≡ answer_of decision
