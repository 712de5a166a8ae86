use Rattle.std.proofs.Common.{arith}
use Rattle.finite.proofs.Searching.{starts_rise}
use Rattle.image.specs.Texts.{text_start, text_end}
use Rattle.relocs.proofs.GapLemmas.{gaps_stop}
use Rattle.relocs.proofs.parts.before.Goals as goal

pub keys_below-n-requires : goal.keys_below-n-requires
keys_below-n-requires c = starts_rise text_start text_end c.args.texts.now (λ k d lt. omega arith) c.requires.rise

pub returns-clause-gaps : goal.returns-clause-gaps
returns-clause-gaps c = λ a. gaps_stop a c.args.to c.keys_below-n.result c.args.texts.now c.requires.fit c.keys_below-n.ensures.others
