use Rattle.std.proofs.Common.{◌≡◌, true, ◌∙◌, ◌/◌, sym, subst, arith}
use Rattle.std.proofs.lemmas.List.{get_or_default}
use Rattle.guest_mem.specs.declared.page.Page.{Page}
use Rattle.guest_mem.specs.Pages.{IsSamePage, is_full}
use Rattle.guest_mem.specs.Paged.{no_page}
use Rattle.guest_mem.proofs.PagedLaws.{each_same, same_paged, paged_full, paged_kept}
use Rattle.guest_mem.proofs.paged.make_full.Goals as goal

pub returns-in_default-clause-same : goal.returns-in_default-clause-same
returns-in_default-clause-same c =
    let qs = c.loop-i.pages in
    let i = c.loop-i.i in
    let new = c.make_full.new.self in
    let is = get_or_default qs i c.index-pages-i.result no_page (omega arith) in
    same_paged c.args.pages.now _ (each_same c.args.pages.now qs i new (omega arith) c.loop-i.invariant.same (subst (λ (p : Page). IsSamePage p new) is c.in_default.ensures.same))

pub returns-in_default-clause-room : goal.returns-in_default-clause-room
returns-in_default-clause-room c w had =
    let qs = c.loop-i.pages in
    let i = c.loop-i.i in
    let new = c.make_full.new.self in
    let is = get_or_default qs i c.index-pages-i.result no_page (omega arith) in
    paged_kept qs i new (omega arith) (subst (λ (p : Page). is_full p ≡ true → is_full new ≡ true) is c.in_default.ensures.kept) w
    (paged_full qs w ∙ c.loop-i.invariant.kept (w / 512) (sym (paged_full c.args.pages.now w) ∙ had))

pub returns-clause-made : goal.returns-clause-made
returns-clause-made c w a b = paged_full c.loop-i.pages w ∙ c.loop-i.invariant.made (w / 512) (omega arith) (omega arith)

pub returns-clause-room : goal.returns-clause-room
returns-clause-room c w had = paged_full c.loop-i.pages w ∙ c.loop-i.invariant.kept (w / 512) (sym (paged_full c.args.pages.now w) ∙ had)
