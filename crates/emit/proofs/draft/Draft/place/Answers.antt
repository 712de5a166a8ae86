use Rattle.emit.proofs.Emission.{renders_at, aims_at, emitted_some}
use Rattle.emit.proofs.draft.Draft.place.Goals as goal

pub returns-in-Ok-clause-renders : goal.returns-in-Ok-clause-renders
returns-in-Ok-clause-renders c =
    let draft = c.args.self.now in
    renders_at draft.image.now draft.plan.now c.args.base c.in-Ok.layout c.kept.ensures draft.of_image draft.readable c.kept-in-Ok.ensures c.in-Ok.ensures.is

pub returns-in-Ok-clause-aims : goal.returns-in-Ok-clause-aims
returns-in-Ok-clause-aims c =
    let draft = c.args.self.now in
    aims_at draft.image.now draft.plan.now c.args.base c.in-Ok.layout c.kept.ensures draft.of_image draft.readable c.kept-in-Ok.ensures c.in-Ok.ensures.is

pub returns-in-Ok-clause-some : goal.returns-in-Ok-clause-some
returns-in-Ok-clause-some c =
    let draft = c.args.self.now in
    emitted_some draft.image.now draft.plan.now c.args.base c.in-Ok.layout c.kept.ensures draft.of_image draft.readable c.in-Ok.ensures.is
