use Rattle.std.proofs.Common.{get_or, ap, arith}
use Rattle.std.proofs.lemmas.List.Sums.{sum_by_more_le}
use Rattle.place_blocks.proofs.lay.heat_of.Goals as goal

pub overflow_add-heat : goal.overflow_add-heat
overflow_add-heat c =
    let step = sum_by_more_le (λ b. get_or c.args.counts.now b 0) c.args.chain.now c.loop-i.i 0 (omega (arith, c.loop-i-test.true, c.len-i-end.ensures)) in
    let here = ap (λ b. get_or c.args.counts.now b 0) c.at.ensures in
    omega (arith, step, here, c.loop-i.invariant, c.requires.fits)
