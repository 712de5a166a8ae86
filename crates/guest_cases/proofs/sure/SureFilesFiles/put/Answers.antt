use Rattle.guest_cases.proofs.Filled.{put_filled, same_filled}
use Rattle.guest_cases.proofs.sure.SureFilesFiles.put.Goals as goal

pub returns-clause-bytes : goal.returns-clause-bytes
returns-clause-bytes c = put_filled _ _ _ _ _ c.put.ensures.bytes

pub returns-clause-others : goal.returns-clause-others
returns-clause-others c = same_filled _ _ _ c.put.ensures.others
