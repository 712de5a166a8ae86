use Rattle.std.proofs.Common.{◌≤◌, arith}
use Rattle.std.proofs.lemmas.List.{take_rest}
use Rattle.finite.proofs.Searching.{starts_rise, pairs_drop}
use Rattle.image.specs.Texts.{text_start, text_end}
use Rattle.relocs.proofs.GapLemmas.{gaps_skip}
use Rattle.relocs.proofs.parts.from_on.Goals as goal

pub keys_below-n-requires : goal.keys_below-n-requires
keys_below-n-requires c = starts_rise text_start text_end c.args.texts.now (λ k d lt. omega arith) c.requires.rise

pub returns-clause-rise : goal.returns-clause-rise
returns-clause-rise c = rw (take_rest c.args.texts.now c.keys_below-n.result) (pairs_drop (λ s t. text_end s ≤ t.from) c.keys_below-n.result c.args.texts.now c.requires.rise)

pub returns-clause-gaps : goal.returns-clause-gaps
returns-clause-gaps c = λ to. rw (take_rest c.args.texts.now c.keys_below-n.result) (gaps_skip c.args.at to c.keys_below-n.result c.args.texts.now c.keys_below-n.ensures.below c.keys_below-n.ensures.within)
