use Rattle.std.proofs.Common.{◌∙◌, sym, ap}
use Rattle.guest_mem.specs.declared.page.Page.{Page}
use Rattle.guest_mem.specs.Pages.{page_rights}
use Rattle.guest_mem.proofs.PageLaws.{zero_rights, full_rights}
use Rattle.guest_mem.proofs.page.Page.have_rights.Goals as goal

pub returns-in-Zero : goal.returns-in-Zero
returns-in-Zero c = c.gives.ensures ∙ sym (ap (λ (p : Page). page_rights c.args.right p c.args.j c.args.n) c.in-Zero.is ∙ zero_rights c.args.right c.in-Zero.rights c.args.j c.args.n c.requires.some)

pub returns-in-Full : goal.returns-in-Full
returns-in-Full c = full_rights c.args.right c.args.self.now c.in-Full.full c.deref.result.now c.args.j c.args.n c.have_rights.result c.in-Full.is c.deref.ensures c.have_rights.ensures.read c.have_rights.ensures.write
