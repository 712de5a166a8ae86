use Rattle.std.proofs.Common.{◌∙◌}
use Rattle.std.proofs.lemmas.List.{take_all}
use Rattle.retire.proofs.Marking.{holders_none, holders_more}
use Rattle.retire.proofs.marks.Marks.mark_holders.Goals as goal

pub loop-at-init : goal.loop-at-init
loop-at-init c = holders_none c.args.index.now.lives.now c.args.self.now

pub mark_holder-requires : goal.mark_holder-requires
mark_holder-requires c = c.loop-at.invariant.size ∙ c.requires

pub loop-at-preserved : goal.loop-at-preserved
loop-at-preserved c =
    holders_more c.args.index.now.lives.now c.args.addresses.now c.loop-at.at-index _ c.args.self.now c.loop-at.self c.mark_holder.new.self
    c.loop-at-test.true c.loop-at.invariant c.in_ok-mark_holder.ensures

pub returns : goal.returns
returns c = rw (take_all c.loop-at.at-index c.args.addresses.now c.loop-at-test.false) at c.loop-at.invariant
