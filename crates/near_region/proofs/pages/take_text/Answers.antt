use Rattle.std.proofs.Common.{◌+◌, subst}
use Rattle.near_region.specs.Pages.{TakesRange}
use Rattle.near_region.proofs.Taking.{text_taken}
use Rattle.near_region.proofs.pages.take_text.Goals as goal

pub returns : goal.returns
returns c = text_taken c.args.t.now c.args.taken.now c.take_pages.new.taken c.take_targets.new.taken
    (subst (λ n. TakesRange c.args.t.now.from (n + 4) c.args.taken.now c.take_pages.new.taken) c.end.ensures c.take_pages.ensures) c.take_targets.ensures
