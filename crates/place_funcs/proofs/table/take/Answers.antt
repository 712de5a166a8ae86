use Rattle.std.proofs.Common.{ap, ◌∙◌}
use Rattle.std.specs.Prelude.{None, if◌then◌else◌}
use Rattle.place_funcs.specs.Links.{has_place, link_at}
use Rattle.place_funcs.proofs.Places.{at_names, taken_queued}
use Rattle.place_funcs.proofs.table.take.Goals as goal

pub returns-clause-links : goal.returns-clause-links
returns-clause-links c = λ p q. c.remove.ensures.updates.0 (p, q) ∙ ap (λ b. if b then None else link_at c.args.table.now.links p q) (at_names c.args.x c.args.y p q)

pub returns-clause-queued : goal.returns-clause-queued
returns-clause-queued c =
    taken_queued (link_at c.args.table.now.links) (link_at c.remove.new.self) (has_place c.args.table.now.queue) (has_place c.leave.new.queue) c.args.x c.args.y
    c.requires.queued c.link_of-link.result c.link_of-link.ensures c.leave.ensures (returns-clause-links c)
