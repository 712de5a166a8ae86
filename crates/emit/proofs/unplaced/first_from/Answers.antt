use Rattle.std.proofs.Common.{get_or, refl, ◌<◌, length, rules}
use Rattle.emit.proofs.Ordered.{first_is}
use Rattle.emit.proofs.unplaced.first_from.Goals as goal

pub returns : goal.returns
returns c =
    let some : 0 < length c.args.order.now = search rules in
    first_is c.args.runs.now c.args.order.now (get_or c.args.order.now 0 0) c.index-runs-order.result some refl (c.requires 0 0 some)
