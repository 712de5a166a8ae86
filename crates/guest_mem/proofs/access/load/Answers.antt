use Rattle.std.proofs.Common.{Ok, ap, ◌∙◌, rules}
use Rattle.guest_mem.proofs.Laws.{narrow_load}
use Rattle.guest_mem.proofs.access.load.Goals as goal

pub returns : goal.returns
returns g c =
    ap Ok c.plain.ensures
    ∙ narrow_load (g.O.Origins.origin c.args.origins.now) (g.S.WordStore.contents c.args.store.now) c.args.at c.args.width c.extend.result c.in_default.not-D (search rules) (search rules) (search rules)
