use Rattle.std.proofs.Common.{List, Bool, sym, subst}
use Rattle.image.specs.declared.ranges.TextRange.{TextRange}
use Rattle.near_region.specs.Pages.{AreTaken, AreNearPages, IsLongest}
use Rattle.near_region.proofs.Opens.{best_gap, no_best}
use Rattle.near_region.proofs.region.best_region.Goals as goal

pub returns-in_default : goal.returns-in_default
returns-in_default c = no_best c.args.image.now.texts c.args.image.now.parts c.kept.ensures.texts_fit c.deref.result.now
    (subst (λ (l : List Bool). AreTaken c.args.image.now.texts c.args.image.now.parts l) (sym c.deref.ensures.value) c.in_ok-taken.ensures.taken)
    c.near_pages-first.result.0 c.near_pages-first.result.1 c.near_pages-first.ensures.within
    (subst (λ (l : List TextRange). AreNearPages l c.near_pages-first.result.0 c.near_pages-first.result.1) c.texts.ensures c.near_pages-first.ensures.near)
    (subst (λ o. IsLongest c.deref.result.now c.near_pages-first.result.0 c.near_pages-first.result.1 o) c.in_default.is c.longest_gap.ensures)

pub returns : goal.returns
returns c = best_gap c.args.image.now.texts c.args.image.now.parts c.kept.ensures.texts_fit c.deref.result.now
    (subst (λ (l : List Bool). AreTaken c.args.image.now.texts c.args.image.now.parts l) (sym c.deref.ensures.value) c.in_ok-taken.ensures.taken)
    c.near_pages-first.result.0 c.near_pages-first.result.1 c.near_pages-first.ensures.within
    (subst (λ (l : List TextRange). AreNearPages l c.near_pages-first.result.0 c.near_pages-first.result.1) c.texts.ensures c.near_pages-first.ensures.near)
    c.in-Some.p c.in-Some.q
    (subst (λ o. IsLongest c.deref.result.now c.near_pages-first.result.0 c.near_pages-first.result.1 o) c.in-Some.is c.longest_gap.ensures)
