use Rattle.std.proofs.Common.{◌≡◌, ◌∙◌, ◌/◌, ◌%◌, sym, ap, subst, arith}
use Rattle.std.proofs.lemmas.List.{get_or_read}
use Rattle.finite.specs.Maps.{contains}
use Rattle.guest_mem.specs.declared.page.Page.{Page}
use Rattle.guest_mem.specs.Memory.{with_word}
use Rattle.guest_mem.specs.Pages.{IsPageWith, is_full}
use Rattle.guest_mem.specs.Paged.{no_page, page_of}
use Rattle.guest_mem.proofs.PagedLaws.{paged_full, paged_kept, paged_set}
use Rattle.guest_mem.proofs.paged.PagedMemWordStore.set_word.Goals as goal

pub returns-in_default-clause-roomy : goal.returns-in_default-clause-roomy
returns-in_default-clause-roomy c =
    let ps = c.self.inside.pages.items in
    let i = c.args.w / 512 in
    let old = c.index_mut-page.result.now in
    let is : old ≡ page_of ps i = get_or_read ps i old (omega arith) c.index_mut-page.ensures.value no_page in
    sym (ap (λ s. contains s.room c.args.w) c.self.view_is) ∙ paged_full ps c.args.w ∙ ap is_full (sym is) ∙ c.in_default.ensures.roomy

pub returns-clause-ok : goal.returns-clause-ok
returns-clause-ok c =
    let ps = c.self.inside.pages.items in
    let i = c.args.w / 512 in
    let old = c.index_mut-page.result.now in
    let is : old ≡ page_of ps i = get_or_read ps i old (omega arith) c.index_mut-page.ensures.value no_page in
    paged_set ps c.args.w c.set_word.new.self c.args.word (omega arith)
    (subst (λ (p : Page). IsPageWith p (c.args.w % 512) c.args.word c.set_word.new.self) is c.in-Ok.ensures.ok)
    ∙ ap (λ s. with_word s.contents c.args.w c.args.word) c.self.view_is

pub returns-clause-room : goal.returns-clause-room
returns-clause-room c v had =
    let ps = c.self.inside.pages.items in
    let i = c.args.w / 512 in
    let old = c.index_mut-page.result.now in
    let is : old ≡ page_of ps i = get_or_read ps i old (omega arith) c.index_mut-page.ensures.value no_page in
    paged_kept ps i c.set_word.new.self (omega arith) (λ f. c.in-Ok.ensures.kept (ap is_full is ∙ f)) v (ap (λ s. contains s.room v) c.self.view_is ∙ had)
