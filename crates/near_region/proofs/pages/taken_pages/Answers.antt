use Rattle.std.proofs.Common.{List, Bool, length, drop, ◌∙◌, sym, subst}
use Rattle.near_region.specs.Pages.{AreTaken}
use Rattle.near_region.proofs.Frees.{written}
use Rattle.near_region.proofs.pages.taken_pages.Goals as goal

pub take_image-requires : goal.take_image-requires
take_image-requires c = c.deref_mut.ensures.value ∙ c.in_ok-taken.ensures.items_if_clones_equal (λ y e. e)

pub returns-clause-taken : goal.returns-clause-taken
returns-clause-taken c = subst (λ (l : List Bool). AreTaken c.args.image.now.texts c.args.image.now.parts l)
    (sym (written c.in_ok-taken.taken.len c.take_image.new.taken (drop (length c.take_image.new.taken) c.in_ok-taken.taken.items) c.take_image.ensures.size c.in_ok-taken.ensures.len))
    c.take_image.ensures.taken
