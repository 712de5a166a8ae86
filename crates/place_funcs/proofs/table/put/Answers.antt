use Rattle.std.proofs.Common.{ap, ◌∙◌}
use Rattle.std.specs.Prelude.{Some, if◌then◌else◌}
use Rattle.place_funcs.specs.Links.{has_place, link_at}
use Rattle.place_funcs.proofs.Places.{at_names, given_queued, put_over, taken_here}
use Rattle.place_funcs.proofs.table.put.Goals as goal

pub returns-clause-links : goal.returns-clause-links
returns-clause-links c = λ p q.
    c.in_ok-insert.ensures.updates.0 (p, q)
    ∙ ap (λ b. if b then Some c.args.link else link_at c.take.new.table.links p q) (at_names c.args.x c.args.y p q)
    ∙ put_over c.args.x c.args.y p q (Some c.args.link) (link_at c.take.new.table.links p q) (link_at c.args.table.now.links p q) (c.take.ensures.links p q)

pub returns-clause-queued : goal.returns-clause-queued
returns-clause-queued c =
    given_queued (link_at c.take.new.table.links) (link_at c.insert.new.self) (has_place c.take.new.table.queue) (has_place c.enter.new.queue) c.args.x c.args.y
    c.take.ensures.queued c.args.link (taken_here (link_at c.args.table.now.links) (link_at c.take.new.table.links) c.args.x c.args.y c.take.ensures.links) c.in_ok-enter.ensures
    (λ p q. c.in_ok-insert.ensures.updates.0 (p, q) ∙ ap (λ b. if b then Some c.args.link else link_at c.take.new.table.links p q) (at_names c.args.x c.args.y p q))
