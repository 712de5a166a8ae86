use Rattle.std.proofs.Common.{arith}
use Rattle.std.proofs.lemmas.Grind.{common_steps}
use Rattle.relocs.proofs.CoverLemmas.{greatest_end_more}
use Rattle.relocs.proofs.cover.tops.Goals as goal

pub loop-r-preserved : goal.loop-r-preserved
loop-r-preserved c =
    let more = greatest_end_more c.args.ranges.now c.loop-r.r-index (0, 0) c.loop-r-test.true in
    let items = c.in_ok-push.ensures.items in (
      grind (arith, common_steps),
      grind (arith, common_steps),
      λ k h. (
          let before = c.loop-r.invariant.2 k in
          grind (arith, common_steps)),
    )
