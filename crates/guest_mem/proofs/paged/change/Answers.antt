use Rattle.std.proofs.Common.{◌≡◌, ◌∙◌, ◌+◌, ◌-◌, ◌<◌, ◌≤◌, ℕ, length, sym, subst, inl, inr, arith}
use Rattle.std.proofs.lemmas.List.{get_or_default, length-set}
use Rattle.std.proofs.lemmas.Bool.{cases_lt}
use Rattle.oc_base.specs.declared.range.Range.{Range}
use Rattle.guest_mem.specs.declared.page.Page.{Page}
use Rattle.guest_mem.specs.Pages.{IsPageChanged}
use Rattle.guest_mem.specs.Paged.{no_page, page_of, part_from, part_length}
use Rattle.guest_mem.proofs.PagedLaws.{each_set}
use Rattle.guest_mem.proofs.ChangeLaws.{changed_none, paged_changed}
use Rattle.guest_mem.proofs.paged.change.Goals as goal

pub loop-i-preserved : goal.loop-i-preserved
loop-i-preserved c =
    let ps = c.args.pages.now in
    let qs = c.loop-i.pages in
    let i = c.loop-i.i in
    let new = c.change.new.self in
    let a = c.args.range.from in
    let b = c.args.range.to in
    let lt : i < length qs = omega arith in
    let is : _ ≡ page_of ps i = get_or_default qs i c.index-pages-i.result no_page lt ∙ c.loop-i.invariant.rest i (omega arith) in
    let here : IsPageChanged c.args.cleared (part_from a i) (part_length a b i) c.args.rights (page_of ps i) new =
    subst (λ (r : Range). IsPageChanged c.args.cleared r.from (r.to - r.from) c.args.rights (page_of ps i) new) c.part-part.ensures
    (subst (λ (p : Page). IsPageChanged c.args.cleared c.part-part.result.from (c.part-part.result.to - c.part-part.result.from) c.args.rights p new) is c.change.ensures) in
    record {
      done = each_set (λ n q. n < i + 1 → IsPageChanged c.args.cleared (part_from a n) (part_length a b n) c.args.rights (page_of ps n) q) qs i new lt (λ _. here)
          (λ n other x. c.loop-i.invariant.done n (omega arith));
      rest = each_set (λ n q. i + 1 ≤ n → q ≡ page_of ps n) qs i new lt (λ x. absurd (omega arith)) (λ n other x. c.loop-i.invariant.rest n (omega arith));
      table = length-set qs i new ∙ c.loop-i.invariant.table;
    }

pub returns-clause-changed : goal.returns-clause-changed
returns-clause-changed c =
    let ps = c.args.pages.now in
    let qs = c.loop-i.pages in
    let a = c.args.range.from in
    let b = c.args.range.to in
    let n = b - a in
    let e : b ≡ a + n = omega arith in
    paged_changed c.args.cleared ps qs a n c.args.rights (omega arith) (λ i.
    subst (λ (z : ℕ). IsPageChanged c.args.cleared (part_from a i) (part_length a z i) c.args.rights (page_of ps i) (page_of qs i)) e
    (elim (cases_lt i c.loop-i.i) [
      | inl below ↦ c.loop-i.invariant.done i below
      | inr past ↦ subst (λ (p : Page). IsPageChanged c.args.cleared (part_from a i) (part_length a b i) c.args.rights (page_of ps i) p) (sym (c.loop-i.invariant.rest i past))
          (changed_none c.args.cleared (part_from a i) (part_length a b i) c.args.rights (page_of ps i) (omega arith))
    ]))
