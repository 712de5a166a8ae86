use Rattle.std.proofs.Common.{◌≡◌, ℕ, ◌+◌, ◌<◌, ◌≤◌, ◌++◌, ◌∷◌, take, drop, sym, subst}
use Rattle.region.specs.Free.{range}
use Rattle.oc_base.specs.declared.range.Range.{Range}
use Rattle.region.proofs.Taking.{cut_in_two}
use Rattle.region.proofs.ranges.cut_out.Goals as goal

pub end_of-end-requires : goal.end_of-end-requires
end_of-end-requires c = subst (λ (r : Range). c.args.at + c.args.n ≤ r.to) (sym c.index-r.ensures) (c.requires.part c.index-r.result.now)

pub returns-then-end-to-clause-items : goal.returns-then-end-to-clause-items
returns-then-end-to-clause-items c = λ d.
    cut_in_two c.args.free.now.items c.set.new.free.items c.insert.new.free.items c.args.i c.args.at (c.args.at + c.args.n) c.index-r.result.now d c.requires.place c.index-r.ensures
    c.if-r-at.true (subst (λ (e : ℕ). e < c.index-r.result.now.to) c.end_of-end.ensures c.if-end-to.true)
    c.set.ensures.items (subst (λ (e : ℕ). c.insert.new.free.items ≡ take (c.args.i + 1) c.set.new.free.items ++ range e c.index-r.result.now.to ∷ drop (c.args.i + 1) c.set.new.free.items) c.end_of-end.ensures c.insert.ensures.items)
