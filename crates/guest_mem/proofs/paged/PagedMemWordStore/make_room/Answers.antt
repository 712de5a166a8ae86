use Rattle.std.proofs.Common.{◌≡◌, ◌∙◌, ◌/◌, sym, ap, subst, arith}
use Rattle.std.proofs.lemmas.List.{get_or_read}
use Rattle.finite.specs.Maps.{contains}
use Rattle.guest_mem.specs.declared.page.Page.{Page}
use Rattle.guest_mem.specs.Pages.{IsSamePage, is_full}
use Rattle.guest_mem.specs.Paged.{no_page, page_of}
use Rattle.guest_mem.proofs.PagedLaws.{paged_full, paged_kept, paged_made, same_but}
use Rattle.guest_mem.proofs.paged.PagedMemWordStore.make_room.Goals as goal

pub returns-in_default-clause-roomy : goal.returns-in_default-clause-roomy
returns-in_default-clause-roomy c =
    let ps = c.self.inside.pages.items in
    let i = c.args.w / 512 in
    let old = c.index_mut-page.result.now in
    let is : old ≡ page_of ps i = get_or_read ps i old (omega arith) c.index_mut-page.ensures.value no_page in
    sym (ap (λ s. contains s.room c.args.w) c.self.view_is) ∙ paged_full ps c.args.w ∙ ap is_full (sym is) ∙ c.in_default.ensures.roomy

pub returns-clause-same : goal.returns-clause-same
returns-clause-same c =
    let ps = c.self.inside.pages.items in
    let i = c.args.w / 512 in
    let old = c.index_mut-page.result.now in
    let is : old ≡ page_of ps i = get_or_read ps i old (omega arith) c.index_mut-page.ensures.value no_page in
    same_but ps i c.make_full.new.self (omega arith) (subst (λ (p : Page). IsSamePage p c.make_full.new.self) is c.in-Ok.ensures.same)
    ∙ ap (λ s. s.contents) c.self.view_is

pub returns-clause-made : goal.returns-clause-made
returns-clause-made c = paged_made c.self.inside.pages.items c.args.w c.make_full.new.self (omega arith) c.in-Ok.ensures.full

pub returns-clause-room : goal.returns-clause-room
returns-clause-room c v had =
    paged_kept c.self.inside.pages.items (c.args.w / 512) c.make_full.new.self (omega arith) (λ _. c.in-Ok.ensures.full) v (ap (λ s. contains s.room v) c.self.view_is ∙ had)
