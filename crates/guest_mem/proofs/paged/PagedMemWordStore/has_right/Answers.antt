use Rattle.std.proofs.Common.{◌≡◌, ◌∙◌, ◌/◌, ◌%◌, sym, ap, arith}
use Rattle.std.proofs.lemmas.List.{get_or_read}
use Rattle.std.proofs.lemmas.Bool.{le-ltb}
use Rattle.finite.specs.Maps.{contains}
use Rattle.guest_mem.specs.declared.page.Page.{Page}
use Rattle.guest_mem.specs.Memory.{with_right}
use Rattle.guest_mem.specs.Pages.{page_right}
use Rattle.guest_mem.specs.Paged.{no_page, page_of, paged_memory}
use Rattle.guest_mem.proofs.Laws.{not_true}
use Rattle.guest_mem.proofs.PagedLaws.{paged_right, rights_below}
use Rattle.guest_mem.proofs.paged.PagedMemWordStore.has_right.Goals as goal

pub returns-then-at : goal.returns-then-at
returns-then-at c =
    let ps = c.self.inside.pages.items in
    let q = c.args.at in
    let is : c.index.result.now ≡ page_of ps (q / 4096) = get_or_read ps (q / 4096) c.index.result.now (omega arith) c.index.ensures no_page in
    c.has_right.ensures
    ∙ ap (λ (p : Page). page_right c.args.right p (q % 4096)) is
    ∙ sym (paged_right c.args.right ps q)
    ∙ ap (λ s. contains (with_right s.contents c.args.right) q) c.self.view_is

pub returns-else-at : goal.returns-else-at
returns-else-at c =
    let ps = c.self.inside.pages.items in
    let right = c.args.right in
    let past = c.if-at.false in
    le-ltb c.args.at 268435456 past
    ∙ sym (not_true (contains (with_right (paged_memory ps) right) c.args.at) (λ e. absurd (omega (arith, past, rights_below ps right c.self.invariant c.args.at e))))
    ∙ ap (λ s. contains (with_right s.contents right) c.args.at) c.self.view_is
