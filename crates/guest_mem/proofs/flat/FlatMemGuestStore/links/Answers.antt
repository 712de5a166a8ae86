use Rattle.std.proofs.Common.{◌≡◌, ◌∙◌, ap}
use Rattle.std.proofs.lemmas.Result.{IfOk-weaker}
use Rattle.guest_mem.specs.Access.{links_of}
use Rattle.guest_mem.specs.Flat.{flat_links}
use Rattle.guest_mem.proofs.LinkLaws.{links_are}
use Rattle.guest_mem.proofs.flat.FlatMemGuestStore.links.Goals as goal

pub returns : goal.returns
returns c =
    let es = c.self.inside.words.entries in
    IfOk-weaker c.links_in.result (λ v. v.items ≡ flat_links es) (λ v. v.items ≡ links_of c.args.self.now.contents)
    (λ v e. e ∙ links_are es c.self.inside.rights.items c.links_in.ensures.ordered ∙ ap (λ s. links_of s.contents) c.self.view_is)
    c.links_in.ensures.links
