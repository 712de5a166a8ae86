use Rattle.std.proofs.Common.{sym, ◌∙◌}
use Rattle.world.proofs.LinksRise.{at_link, no_link}
use Rattle.world.proofs.told.leads_in.Goals as goal

pub returns-then-i-links : goal.returns-then-i-links
returns-then-i-links c =
    sym (no_link c.args.region c.args.links.now c.args.s.now c.requires c.links_before-i.result c.links_before-i.ensures.below c.links_before-i.ensures.others c.if-i-links.true)

pub returns : goal.returns
returns c =
    c.is_lead.ensures
    ∙ sym (at_link c.args.region c.args.links.now c.args.s.now c.requires c.links_before-i.result c.links_before-i.ensures.below c.links_before-i.ensures.others _ c.if-i-links.false)
