use Rattle.std.proofs.Common.{◌≡◌, sym, subst, true}
use Rattle.finite.specs.Maps.{contains}
use Rattle.link_tags.specs.Values.{is_link}
use Rattle.guest_mem.specs.declared.words.Word.{Word}
use Rattle.guest_mem.specs.Memory.{with_right}
use Rattle.guest_mem.specs.Store.{Store}
use Rattle.guest_mem.specs.Access.{IsBelowEnd}
use Rattle.guest_mem.proofs.FlatLaws.{rights_low, words_low}
use Rattle.guest_mem.proofs.flat.FlatMemWordStore.bounded.Goals as goal

pub returns-clause-rights : goal.returns-clause-rights
returns-clause-rights c right =
    subst (λ (s : Store). IsBelowEnd (with_right s.contents right)) c.self.view_is
    (rights_low c.self.inside.words.entries c.self.inside.rights.items right c.self.invariant.rights)

pub returns-clause-links : goal.returns-clause-links
returns-clause-links c w e =
    words_low (λ (x : Word). is_link x.tag) c.self.inside.words.entries c.self.invariant.words w
    (subst (λ (s : Store). contains s.contents.links w ≡ true) (sym c.self.view_is) e)
