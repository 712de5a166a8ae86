use Rattle.std.proofs.Common.{◌≡◌, ◌∙◌, ◌/◌, ◌%◌, sym, ap, arith}
use Rattle.std.proofs.lemmas.List.{get_or_read}
use Rattle.std.proofs.lemmas.Bool.{le-ltb}
use Rattle.finite.specs.Maps.{contains_all}
use Rattle.guest_mem.specs.declared.page.Page.{Page}
use Rattle.guest_mem.specs.Memory.{with_right}
use Rattle.guest_mem.specs.Pages.{page_rights}
use Rattle.guest_mem.specs.Paged.{no_page, page_of, paged_memory}
use Rattle.guest_mem.proofs.Laws.{not_true, end_of}
use Rattle.guest_mem.proofs.PagedLaws.{paged_rights, rights_below}
use Rattle.guest_mem.proofs.paged.PagedMemWordStore.have_rights.Goals as goal

pub returns-then-at-clause-value : goal.returns-then-at-clause-value
returns-then-at-clause-value c =
    let ps = c.self.inside.pages.items in
    let q = c.args.at in
    let n = c.args.n in
    let is : c.index.result.now ≡ page_of ps (q / 4096) = get_or_read ps (q / 4096) c.index.result.now (omega arith) c.index.ensures no_page in
    c.have_rights.ensures
    ∙ ap (λ (p : Page). page_rights c.args.right p (q % 4096) n) is
    ∙ paged_rights c.args.right ps q n c.requires.word
    ∙ ap (λ s. contains_all (with_right s.contents c.args.right) q n) c.self.view_is

pub returns-else-at-clause-value : goal.returns-else-at-clause-value
returns-else-at-clause-value c =
    let ps = c.self.inside.pages.items in
    let right = c.args.right in
    let q = c.args.at in
    let n = c.args.n in
    let s = with_right (paged_memory ps) right in
    let past = c.if-at.false in
    let some = c.requires.some in
    le-ltb c.args.at 268435456 past
    ∙ sym (not_true (contains_all s q n) (λ e. absurd (omega (arith, past, some, end_of s q n (rights_below ps right c.self.invariant) some e))))
    ∙ ap (λ s. contains_all (with_right s.contents right) q n) c.self.view_is
