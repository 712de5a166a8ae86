use Rattle.std.proofs.Common.{sym, ap, ◌∙◌}
use Rattle.std.specs.Prelude.{not, ◌==◌, ◌&&◌}
use Rattle.place_funcs.specs.Links.{has_place, waits}
use Rattle.place_funcs.proofs.Places.{goes_out}
use Rattle.place_funcs.proofs.table.leave.Goals as goal

pub returns-then-x-y : goal.returns-then-x-y
returns-then-x-y c = λ r p q.
    c.remove.ensures.updates.0 (r, p, q)
    ∙ goes_out c.args.x c.args.y c.in-Some.link.weight r p q (has_place c.args.queue.now r p q) c.if-x-y.true
    ∙ ap (λ o. has_place c.args.queue.now r p q && not ((p == c.args.x) && ((q == c.args.y) && waits c.args.x c.args.y o r))) (sym c.in-Some.is)
