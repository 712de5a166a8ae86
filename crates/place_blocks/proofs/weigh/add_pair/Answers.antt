use Rattle.std.proofs.Common.{arith}
use Rattle.std.specs.Prelude.{◌&&◌}
use Rattle.place_blocks.specs.Places.{is_at}
use Rattle.place_blocks.proofs.Weighing.{at_most, gains_are}
use Rattle.place_blocks.proofs.weigh.add_pair.Goals as goal

pub add_transfer-requires : goal.add_transfer-requires
add_transfer-requires c = λ e. let f = c.requires.fits e in omega (arith, f)

pub add_fall-requires-clause-fits : goal.add_fall-requires-clause-fits
add_fall-requires-clause-fits c =
    λ e.
    let f = c.requires.fits e in
    let h = c.in_ok-add_transfer.ensures e in
    let m = at_most (is_at c.holder.result e.0 && is_at c.starter-entered.result e.1) c.args.count in
    omega (arith, f, h, m)

pub returns : goal.returns
returns c =
    λ e.
    let g = gains_are c.args.blocks.now c.args.from c.args.to c.args.count c.holder.result c.starter-entered.result e c.holder.ensures.is c.starter-entered.ensures.is in
    let h = c.in_ok-add_transfer.ensures e in
    let k = c.in_ok-add_fall.ensures e in
    omega (arith, g, h, k)
