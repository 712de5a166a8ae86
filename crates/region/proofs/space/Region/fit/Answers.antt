use Rattle.std.proofs.Common.{IfSome, ◌≡◌, ◌+◌, ◌≤◌, List, sym, subst, ap, ◌∙◌}
use Rattle.std.specs.Prelude.{All}
use Rattle.oc_base.specs.declared.range.Range.{Range}
use Rattle.region.specs.Free.{Rises, fit}
use Rattle.region.specs.Space.{Space}
use Rattle.region.proofs.FreeLaws.{ordered, fit_tells}
use Rattle.region.proofs.Whole.{fit_is_free, fit_is_least, fit_is_low, fit_is_high}
use Rattle.region.proofs.space.Region.fit.Goals as goal

pub fit-requires : goal.fit-requires
fit-requires c = subst (λ (rs : List Range). All (λ r. r.from ≤ r.to) rs) (sym c.deref.ensures.value) (ordered c.self.inside.all.from c.self.inside.all.to c.self.inside.free.items c.self.invariant.order)

pub returns-clause-free : goal.returns-clause-free
returns-clause-free c =
    let same : c.self.inside.free.items ≡ c.args.self.now.free = ap (λ (s : Space). s.free) c.self.view_is in
    fit_is_free c.self.inside.all.from c.self.inside.all.to c.args.self.now.free c.args.n c.fit.result
    (subst (Rises c.self.inside.all.from c.self.inside.all.to) same c.self.invariant.order)
    (c.fit.ensures ∙ ap (λ (rs : List Range). fit rs c.args.n) (c.deref.ensures.value ∙ same))

pub returns-clause-least : goal.returns-clause-least
returns-clause-least c =
    let same : c.self.inside.free.items ≡ c.args.self.now.free = ap (λ (s : Space). s.free) c.self.view_is in
    λ p. fit_is_least c.self.inside.all.from c.self.inside.all.to c.args.self.now.free c.args.n c.fit.result
    (subst (Rises c.self.inside.all.from c.self.inside.all.to) same c.self.invariant.order)
    (c.fit.ensures ∙ ap (λ (rs : List Range). fit rs c.args.n) (c.deref.ensures.value ∙ same)) p

pub returns-clause-none : goal.returns-clause-none
returns-clause-none c =
    let same : c.self.inside.free.items ≡ c.args.self.now.free = ap (λ (s : Space). s.free) c.self.view_is in
    λ p. fit_tells c.self.inside.all.from c.self.inside.all.to c.args.self.now.free c.args.n c.fit.result
    (subst (Rises c.self.inside.all.from c.self.inside.all.to) same c.self.invariant.order)
    (c.fit.ensures ∙ ap (λ (rs : List Range). fit rs c.args.n) (c.deref.ensures.value ∙ same)) p

pub returns-clause-low : goal.returns-clause-low
returns-clause-low c =
    let all : c.self.inside.all ≡ c.args.self.now.all = ap (λ (s : Space). s.all) c.self.view_is in
    subst (λ (r : Range). IfSome c.fit.result (λ at. r.from ≤ at)) all
    (fit_is_low c.self.inside.all.from c.self.inside.all.to c.self.inside.free.items c.args.n c.fit.result c.self.invariant.order
    (c.fit.ensures ∙ ap (λ (rs : List Range). fit rs c.args.n) c.deref.ensures.value))

pub returns-clause-high : goal.returns-clause-high
returns-clause-high c =
    let all : c.self.inside.all ≡ c.args.self.now.all = ap (λ (s : Space). s.all) c.self.view_is in
    subst (λ (r : Range). IfSome c.fit.result (λ at. at + c.args.n ≤ r.to)) all
    (fit_is_high c.self.inside.all.from c.self.inside.all.to c.self.inside.free.items c.args.n c.fit.result c.self.invariant.order
    (c.fit.ensures ∙ ap (λ (rs : List Range). fit rs c.args.n) c.deref.ensures.value))
