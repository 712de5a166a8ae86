use Rattle.guest_mem.proofs.PageLaws.{blank_same}
use Rattle.guest_mem.proofs.page.Page.make_full.Goals as goal

pub returns-clause-same : goal.returns-clause-same
returns-clause-same c = blank_same c.args.self.now c.in-Zero.rights c.in-Ok.full c.blank.result c.in-Zero.is c.in-Ok.ensures.ok c.blank.ensures.words c.blank.ensures.links c.blank.ensures.rights
