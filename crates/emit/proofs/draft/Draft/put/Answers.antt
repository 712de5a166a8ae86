use Rattle.plans.proofs.Planned.{planned}
use Rattle.emit.proofs.NearBranches.{are_near}
use Rattle.emit.proofs.draft.Draft.put.Goals as goal

pub made_of-requires-clause-near : goal.made_of-requires-clause-near
made_of-requires-clause-near c =
    let draft = c.args.self.now in
    rw (c.deref.ensures.value, draft.words) (are_near draft.image.now draft.plan.now c.kept.ensures (planned draft.image.now draft.plan.now draft.of_image) draft.readable)
