use Rattle.std.proofs.Common.{subst}
use Rattle.image.specs.declared.ranges.Part.{Part}
use Rattle.near_region.specs.Pages.{TakesRange}
use Rattle.near_region.proofs.Taking.{part_more}
use Rattle.near_region.proofs.pages.take_parts.Goals as goal

pub loop-part-preserved : goal.loop-part-preserved
loop-part-preserved c = part_more c.args.parts.now c.loop-part.part-index c.part-item.result c.args.taken.now c.loop-part.taken c.take_pages.new.taken c.loop-part-test.true c.loop-part.invariant
    (subst (λ (s : Part). TakesRange s.range.from s.range.to c.loop-part.taken c.take_pages.new.taken) c.part-item.is c.take_pages.ensures)
