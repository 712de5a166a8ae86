use Rattle.std.proofs.Common.{◌≡◌, ◌-◌, ◌∙◌, ap, get_or, sym, arith}
use Rattle.std.proofs.lemmas.List.{get_or_default}
use Rattle.finite.proofs.Searching.{covered, uncovered}
use Rattle.finite.proofs.search.place_covering.Goals as goal

pub returns-then-n-eq0-clause-place : goal.returns-then-n-eq0-clause-place
returns-then-n-eq0-clause-place g c = sym (uncovered g.T.Keyed.key g.T.Spanned.end c.args.items.now c.args.at c.keys_up_to-n.result c.requires.apart c.requires.ordered c.keys_up_to-n.ensures.others c.keys_up_to-n.ensures.within (λ d lt. absurd (omega arith)))

pub returns-then-at-end-clause-place : goal.returns-then-at-end-clause-place
returns-then-at-end-clause-place g c = sym (uncovered g.T.Keyed.key g.T.Spanned.end c.args.items.now c.args.at c.keys_up_to-n.result c.requires.apart c.requires.ordered c.keys_up_to-n.ensures.others c.keys_up_to-n.ensures.within (λ d lt. (
    let same = get_or_default c.args.items.now (c.keys_up_to-n.result - 1) d c.index-items-i.result (omega (arith, c.keys_up_to-n.ensures.within)) in
    let is : g.T.Spanned.end (get_or c.args.items.now (c.keys_up_to-n.result - 1) d) ≡ c.end.result = ap g.T.Spanned.end (same ∙ sym c.index-items-i.is) ∙ sym c.end.ensures in
    omega (arith, is, c.if-at-end.true))))

pub returns-clause-place : goal.returns-clause-place
returns-clause-place g c =
    let there = ap g.T.Spanned.end c.index-items-i.is in
    let start = c.keys_up_to-n.ensures.up_to (c.keys_up_to-n.result - 1) c.index-items-i.result (omega arith) (omega arith) in
    sym (covered g.T.Keyed.key g.T.Spanned.end c.args.items.now c.args.at (c.keys_up_to-n.result - 1) c.index-items-i.result c.requires.apart (omega (arith, c.keys_up_to-n.ensures.within)) start (omega (arith, there, c.end.ensures, c.if-at-end.false)))
