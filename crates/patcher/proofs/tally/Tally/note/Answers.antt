use Rattle.std.proofs.Common.{refl, rules}
use Rattle.patcher.specs.Calls.{patched, past_reach}
use Rattle.patcher.proofs.tally.Tally.note.Goals as goal

pub returns-in_ok-push-in-Ok : goal.returns-in_ok-push-in-Ok
returns-in_ok-push-in-Ok c = patched c.in-Ok.word c.in-Ok.ensures.ok c.in-Ok.ensures.reach (search rules) refl

pub returns-in-Err : goal.returns-in-Err
returns-in-Err c = past_reach c.in-Err.target c.in-Err.ensures.out refl c.lower-self.ensures
