use Rattle.std.proofs.Common.{◌∙◌, ap}
use Rattle.std.specs.List.{list_all}
use Rattle.near_region.specs.Regions.{is_beside}
use Rattle.near_region.proofs.Besides.{some_near}
use Rattle.near_region.proofs.near.is_near.Goals as goal

pub returns-else-region : goal.returns-else-region
returns-else-region c =
    some_near c.args.image.now.texts c.args.region c.kept.ensures.texts_fit c.requires c.if-region.false c.all_beside.result
    (c.all_beside.ensures ∙ ap (λ ts. list_all (is_beside c.args.region) ts) c.texts.ensures)
