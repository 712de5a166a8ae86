use Rattle.std.proofs.Common.{◌∙◌}
use Rattle.place_funcs.specs.Links.{has_place}
use Rattle.place_funcs.proofs.Places.{goes_in}
use Rattle.place_funcs.proofs.table.enter.Goals as goal

pub returns-in_ok-insert : goal.returns-in_ok-insert
returns-in_ok-insert c = λ r p q.
    c.in_ok-insert.ensures.updates.0 (r, p, q)
    ∙ goes_in c.args.x c.args.y c.args.link.weight r p q (has_place c.args.queue.now r p q) c.if-x-y.true
