use Rattle.std.proofs.Common.{◌≡◌, ◌≤◌, List, ℕ, sym, subst, ap, ◌∙◌}
use Rattle.std.specs.Prelude.{All, nat_le}
use Rattle.oc_base.specs.declared.range.Range.{Range}
use Rattle.region.specs.Free.{largest}
use Rattle.region.specs.Space.{Space}
use Rattle.region.proofs.FreeLaws.{ordered, largest_fits}
use Rattle.region.proofs.space.Region.largest.Goals as goal

pub largest-requires : goal.largest-requires
largest-requires c =
    subst (λ (rs : List Range). All (λ r. r.from ≤ r.to) rs) (sym c.deref.ensures.value) (ordered c.self.inside.all.from c.self.inside.all.to c.self.inside.free.items c.self.invariant.order)

pub returns-clause-fits : goal.returns-clause-fits
returns-clause-fits c = λ n p.
    let same : c.deref.result.now ≡ c.args.self.now.free = c.deref.ensures.value ∙ ap (λ (s : Space). s.free) c.self.view_is in
    largest_fits c.args.self.now.free n p ∙ ap (λ (m : ℕ). nat_le n m) (ap largest (sym same) ∙ sym c.largest.ensures)
