use Rattle.std.proofs.Common.{◌∙◌}
use Rattle.std.proofs.lemmas.List.Sorted.{searched}
use Rattle.relocs.proofs.TargetLemmas.{found_by_search}
use Rattle.relocs.proofs.targets.is_among.Goals as goal

pub returns : goal.returns
returns c = c.is_ok.ensures.value ∙ found_by_search c.args.sorted.now c.args.at c.binary_search.result (searched c.args.sorted.now c.args.at c.binary_search.result c.binary_search.ensures.position (λ i j le lt. c.requires i j 0 le lt))
