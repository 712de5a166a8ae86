use Rattle.std.proofs.Common.{ap, sym, arith}
use Rattle.finite.proofs.Searching.{covered}
use Rattle.finite.proofs.search.place_near.Goals as goal

pub returns-then-at-end-clause-place : goal.returns-then-at-end-clause-place
returns-then-at-end-clause-place g c =
    let starts = ap g.T.Keyed.key c.index-items-near.is in
    let ends = ap g.T.Spanned.end c.index-items-near.is in
    sym (covered g.T.Keyed.key g.T.Spanned.end c.args.items.now c.args.at c.args.near c.index-items-near.result c.requires.apart c.if-near-items.true
    (omega (arith, starts, c.key.ensures, c.if-key-at.true)) (omega (arith, ends, c.end.ensures, c.if-at-end.true)))
