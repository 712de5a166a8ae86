use Rattle.std.proofs.Common.{◌≡◌, ◌∙◌, sym, ap}
use Rattle.finite.specs.Maps.{contains_all}
use Rattle.guest_mem.specs.Memory.{with_right}
use Rattle.guest_mem.proofs.Laws.{end_of}
use Rattle.guest_mem.proofs.FlatLaws.{rights_are}
use Rattle.guest_mem.proofs.flat.FlatMemWordStore.have_rights.Goals as goal

pub returns-clause-end : goal.returns-clause-end
returns-clause-end c h =
    let right = c.args.right in
    let es = c.self.inside.words.entries in
    let ss = c.self.inside.rights.items in
    let is : with_right c.args.self.now.contents right ≡ _ = sym (ap (λ s. with_right s.contents right) c.self.view_is) ∙ rights_are es ss right in
    end_of (with_right c.args.self.now.contents right) c.args.at c.args.n (c.bounded.ensures.rights right) c.requires.some
    (ap (λ s. contains_all s c.args.at c.args.n) is ∙ sym c.have_rights.ensures ∙ h)
