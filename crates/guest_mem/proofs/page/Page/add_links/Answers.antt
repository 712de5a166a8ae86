use Rattle.guest_mem.proofs.PageLaws.{page_none}
use Rattle.guest_mem.proofs.page.Page.add_links.Goals as goal

pub returns-in-Zero : goal.returns-in-Zero
returns-in-Zero c = page_none c.args.self.now c.in-Zero.field-0 c.args.first c.args.found.now.items c.in-Zero.is
