use Rattle.world.proofs.Fetching.{text_step}
use Rattle.world.proofs.Private.{layout_by_word, nowhere_layout}
use Rattle.world.proofs.laws.fetching_law.Goals as goal

pub returns-clause-region : goal.returns-clause-region
returns-clause-region c = layout_by_word

pub returns-clause-text : goal.returns-clause-text
returns-clause-text c = text_step

pub returns-clause-nowhere : goal.returns-clause-nowhere
returns-clause-nowhere c = nowhere_layout
