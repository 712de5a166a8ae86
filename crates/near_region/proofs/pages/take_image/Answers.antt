use Rattle.std.proofs.Common.{List, Bool, false, length, ◌∙◌, ap, subst}
use Rattle.std.proofs.lemmas.List.{length-replicate}
use Rattle.image.specs.declared.ranges.TextRange.{TextRange}
use Rattle.image.specs.declared.ranges.Part.{Part}
use Rattle.near_region.specs.Pages.{TakesTexts, TakesParts}
use Rattle.near_region.proofs.Frees.{pages_taken}
use Rattle.near_region.proofs.pages.take_image.Goals as goal

pub returns-clause-size : goal.returns-clause-size
returns-clause-size c = c.take_parts.ensures.size ∙ c.take_texts.ensures.size ∙ c.take_run.ensures.size ∙ ap length c.requires ∙ length-replicate {A = Bool} 32768 false

pub returns-clause-taken : goal.returns-clause-taken
returns-clause-taken c = pages_taken c.args.image.now.texts c.args.image.now.parts c.kept.ensures.texts_fit c.kept.ensures.parts_fit
    c.args.taken.now c.take_run.new.taken c.take_texts.new.taken c.take_parts.new.taken c.requires c.take_run.ensures
    (subst (λ (l : List TextRange). TakesTexts l c.take_run.new.taken c.take_texts.new.taken) c.texts.ensures c.take_texts.ensures)
    (subst (λ (l : List Part). TakesParts l c.take_texts.new.taken c.take_parts.new.taken) c.parts.ensures c.take_parts.ensures)
