use Rattle.std.specs.Prelude.{◌≢◌, ◌<◌, List, [], length, IfOk}
use Rattle.std.proofs.Common.{subst}
use Rattle.plans.specs.declared.plan.Moved.{Moved}
use Rattle.emit.proofs.emit.emit.Goals as goal

pub returns-in-Ok-clause-some : goal.returns-in-Ok-clause-some
returns-in-Ok-clause-some c = subst (λ (parts : List Moved). IfOk c.place.result (λ l. parts ≢ [] → 0 < length l.words)) c.in-Ok.ensures.plan c.place.ensures.some
