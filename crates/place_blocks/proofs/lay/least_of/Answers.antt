use Rattle.std.proofs.Common.{◌∙◌, ap₂, sym, min, arith}
use Rattle.place_blocks.proofs.Counts.{least_step}
use Rattle.place_blocks.proofs.lay.least_of.Goals as goal

pub loop-i-preserved : goal.loop-i-preserved
loop-i-preserved c =
    let step = least_step c.args.chain.now c.loop-i.i c.loop-i.invariant.some (omega (arith, c.loop-i-test.true, c.len-i-end.ensures)) in
    record {
      some = omega arith;
      is = c.min-least.ensures ∙ ap₂ min c.loop-i.invariant.is c.at.ensures ∙ sym step;
    }
