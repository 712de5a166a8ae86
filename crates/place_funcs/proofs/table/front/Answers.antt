use Rattle.std.proofs.Common.{◌≡◌, true, false, refl}
use Rattle.place_funcs.specs.Links.{has_place, link_at}
use Rattle.place_funcs.proofs.Places.{first_is, some_there, none_linked, none_there}
use Rattle.place_funcs.proofs.table.front.Goals as goal

pub returns-in_default-clause-none : goal.returns-in_default-clause-none
returns-in_default-clause-none c =
    none_linked (link_at c.args.table.now.links) (has_place c.args.table.now.queue) c.requires.queued
    (λ s p q. none_there _ c.args.table.now.queue.keys (λ h. let e : false ≡ true = c.in_default.ensures.variant.1 h in cc))

pub index-link-requires : goal.index-link-requires
index-link-requires c = let l = some_there (link_at c.args.table.now.links) (has_place c.args.table.now.queue) c.in-Some.place.now.0 c.in-Some.place.now.1 c.in-Some.place.now.2 c.requires.queued c.in-Some.ensures.member in rw l.1 refl

pub returns-clause-first : goal.returns-clause-first
returns-clause-first c =
    first_is (link_at c.args.table.now.links) (has_place c.args.table.now.queue) c.in-Some.place.now.0 c.in-Some.place.now.1 c.in-Some.place.now.2 c.index-link.result.now
    c.requires.queued c.requires.small c.in-Some.ensures.member (λ s p q h. c.in-Some.ensures.least (s, p, q) h) c.index-link.ensures
