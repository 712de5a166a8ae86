use Rattle.std.proofs.Common.{◌∙◌, ◌+◌, ◌-◌, ◌/◌, ◌<◌, ◌≤◌, length, subst, arith}
use Rattle.std.proofs.lemmas.List.{get_or_default, length-set}
use Rattle.oc_base.specs.declared.range.Range.{Range}
use Rattle.guest_mem.specs.declared.page.Page.{Page}
use Rattle.guest_mem.specs.Pages.{IsSamePage, IsReady}
use Rattle.guest_mem.specs.Paged.{no_page, part_from, part_length}
use Rattle.guest_mem.proofs.PagedLaws.{each_set, each_same, same_paged}
use Rattle.guest_mem.proofs.paged.make_ready.Goals as goal

pub returns-in_default-clause-same : goal.returns-in_default-clause-same
returns-in_default-clause-same c =
    let qs = c.loop-i.pages in
    let i = c.loop-i.i in
    let new = c.make_ready.new.self in
    let is = get_or_default qs i c.index-pages-i.result no_page (omega arith) in
    same_paged c.args.pages.now _ (each_same c.args.pages.now qs i new (omega arith) c.loop-i.invariant.same (subst (λ (p : Page). IsSamePage p new) is c.in_default.ensures.same))

pub loop-i-preserved : goal.loop-i-preserved
loop-i-preserved c =
    let qs = c.loop-i.pages in
    let i = c.loop-i.i in
    let new = c.make_ready.new.self in
    let a = c.args.range.from in
    let b = c.args.range.to in
    let lt : i < length qs = omega arith in
    let is = get_or_default qs i c.index-pages-i.result no_page lt in
    let ready : IsReady new (part_from a i) (part_length a b i) c.args.rights = subst (λ (r : Range). IsReady new r.from (r.to - r.from) c.args.rights) c.part-part.ensures c.in-Ok.ensures.ready in
    record {
      same = each_same c.args.pages.now qs i new lt c.loop-i.invariant.same (subst (λ (p : Page). IsSamePage p new) is c.in-Ok.ensures.same);
      ready = λ v x y. each_set (λ n q. a / 4096 ≤ n → n < i + 1 → IsReady q (part_from a n) (part_length a b n) c.args.rights) qs i new lt (λ _ _. ready)
          (λ n other x y. c.loop-i.invariant.ready n x (omega arith)) v x y;
      table = length-set qs i new ∙ c.loop-i.invariant.table;
    }
