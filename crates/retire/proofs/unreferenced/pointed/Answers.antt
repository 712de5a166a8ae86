use Rattle.std.proofs.Common.{◌∙◌, ◌++◌}
use Rattle.retire.proofs.Marking.{holders_joined}
use Rattle.retire.proofs.Closing.{begins}
use Rattle.retire.proofs.unreferenced.pointed.Goals as goal

pub mark_holders-requires : goal.mark_holders-requires
mark_holders-requires c = c.in_ok-marks.ensures.size

pub mark_holders-requires-2 : goal.mark_holders-requires-2
mark_holders-requires-2 c = c.in_ok-mark_holders.ensures.size ∙ c.in_ok-marks.ensures.size

pub mark_holders-requires-3 : goal.mark_holders-requires-3
mark_holders-requires-3 c = c.in_ok-mark_holders-2.ensures.size ∙ c.in_ok-mark_holders.ensures.size ∙ c.in_ok-marks.ensures.size

pub returns : goal.returns
returns c =
    let lives = c.args.index.now.lives.now in
    let two = holders_joined lives c.args.pcs.now c.args.links.now c.in_ok-marks.marks c.mark_holders.new.self c.mark_holders-2.new.self
    c.in_ok-mark_holders.ensures c.in_ok-mark_holders-2.ensures in
    let three = holders_joined lives (c.args.pcs.now ++ c.args.links.now) c.args.aims.now c.in_ok-marks.marks c.mark_holders-2.new.self c.mark_holders-3.new.self
    two c.in_ok-mark_holders-3.ensures in
    begins lives (c.args.pcs.now ++ c.args.links.now ++ c.args.aims.now) c.in_ok-marks.marks c.mark_holders-3.new.self
    c.in_ok-marks.ensures.size c.in_ok-marks.ensures.marked c.in_ok-marks.ensures.waiting three
