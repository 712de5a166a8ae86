use Rattle.std.proofs.Common.{[], ◌∷◌, subst}
use Rattle.image.specs.declared.ranges.TextRange.{TextRange}
use Rattle.near_region.specs.Pages.{TakesTexts}
use Rattle.near_region.proofs.Taking.{text_more}
use Rattle.near_region.proofs.pages.take_texts.Goals as goal

pub loop-t-preserved : goal.loop-t-preserved
loop-t-preserved c = text_more c.args.texts.now c.loop-t.t-index c.t-item.result c.args.taken.now c.loop-t.taken c.take_text.new.taken c.loop-t-test.true c.loop-t.invariant
    (subst (λ (t : TextRange). TakesTexts (t ∷ []) c.loop-t.taken c.take_text.new.taken) c.t-item.is c.take_text.ensures)
