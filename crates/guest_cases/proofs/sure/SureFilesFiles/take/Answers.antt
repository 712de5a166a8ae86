use Rattle.std.proofs.Common.{Err, ap, ◌∙◌}
use Rattle.guest_cases.proofs.Filled.{longer_filled}
use Rattle.guest_cases.proofs.sure.SureFilesFiles.take.Goals as goal

pub returns-in-Err-TooLong-clause-too_long : goal.returns-in-Err-TooLong-clause-too_long
returns-in-Err-TooLong-clause-too_long c = λ _. longer_filled _ _ _ (c.take.ensures.too_long (c.in-Err-TooLong.is ∙ ap Err c.in-Err-TooLong.field-0-is))
