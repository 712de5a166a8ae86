use Rattle.world.proofs.LinkAt.{none_past, none_here, one_here}
use Rattle.world.proofs.slots.link_at.Goals as goal

pub returns-then-i-links : goal.returns-then-i-links
returns-then-i-links c =
    λ m is whole. none_past m c.args.links.now c.args.at c.requires c.links_before-i.result c.links_before-i.ensures.below c.links_before-i.ensures.others is whole c.if-i-links.true

pub returns-then-place-at : goal.returns-then-place-at
returns-then-place-at c =
    λ m is whole. none_here m c.args.links.now c.args.at c.requires c.links_before-i.result c.links_before-i.ensures.below c.links_before-i.ensures.others is whole (0, 0) c.if-i-links.false
    c.if-place-at.true

pub returns : goal.returns
returns c =
    λ m is whole. one_here m c.args.links.now c.args.at c.requires c.links_before-i.result c.links_before-i.ensures.below c.links_before-i.ensures.others is whole (0, 0) c.if-i-links.false
    c.if-place-at.false
