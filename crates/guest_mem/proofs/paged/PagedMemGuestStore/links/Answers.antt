use Rattle.std.proofs.Common.{◌≡◌, ◌∙◌, ap}
use Rattle.std.proofs.lemmas.Result.{IfOk-weaker}
use Rattle.guest_mem.specs.Access.{links_of}
use Rattle.guest_mem.specs.Paged.{paged_links}
use Rattle.guest_mem.proofs.PagedLaws.{paged_links_are}
use Rattle.guest_mem.proofs.paged.PagedMemGuestStore.links.Goals as goal

pub returns : goal.returns
returns c =
    IfOk-weaker c.links_in.result (λ v. v.items ≡ paged_links c.deref.result.now 0 0x0200_0000) (λ v. v.items ≡ links_of c.args.self.now.contents)
    (λ v e. e ∙ ap (λ ps. paged_links ps 0 0x0200_0000) c.deref.ensures.value ∙ paged_links_are c.self.inside.pages.items c.self.invariant ∙ ap (λ s. links_of s.contents) c.self.view_is)
    c.links_in.ensures
