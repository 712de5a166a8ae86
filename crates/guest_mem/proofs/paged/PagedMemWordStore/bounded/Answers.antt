use Rattle.std.proofs.Common.{◌≡◌, true, sym, subst}
use Rattle.finite.specs.Maps.{contains}
use Rattle.guest_mem.specs.Memory.{with_right}
use Rattle.guest_mem.specs.Store.{Store}
use Rattle.guest_mem.specs.Access.{IsBelowEnd}
use Rattle.guest_mem.proofs.PagedLaws.{rights_below, links_below}
use Rattle.guest_mem.proofs.paged.PagedMemWordStore.bounded.Goals as goal

pub returns-clause-rights : goal.returns-clause-rights
returns-clause-rights c right =
    subst (λ (s : Store). IsBelowEnd (with_right s.contents right)) c.self.view_is (rights_below c.self.inside.pages.items right c.self.invariant)

pub returns-clause-links : goal.returns-clause-links
returns-clause-links c w e =
    links_below c.self.inside.pages.items c.self.invariant w (subst (λ (s : Store). contains s.contents.links w ≡ true) (sym c.self.view_is) e)
