use Rattle.std.proofs.Common.{◌+◌, ◌∙◌}
use Rattle.relocs.proofs.HolderLemmas.{held_by_holder, held_low}
use Rattle.relocs.proofs.holders.is_held.Goals as goal

pub returns-clause-held : goal.returns-clause-held
returns-clause-held c = c.is_some.ensures ∙ held_by_holder c.args.holders.now.segments.now c.args.from (c.args.from + c.args.size) c.holder.result c.holder.ensures.first

pub returns-clause-low : goal.returns-clause-low
returns-clause-low c = held_low c.args.holders.now.segments.now c.args.from c.args.size c.is_some.result c.args.holders.now.each (c.is_some.ensures ∙ held_by_holder c.args.holders.now.segments.now c.args.from (c.args.from + c.args.size) c.holder.result c.holder.ensures.first)
