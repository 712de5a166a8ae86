use Rattle.std.proofs.Common.{refl}
use Rattle.retire.proofs.Marking.{holder_within, holder_marked, unheld}
use Rattle.retire.proofs.marks.Marks.mark_holder.Goals as goal

pub returns-in_default : goal.returns-in_default
returns-in_default c = unheld c.args.index.now.lives.now c.args.at c.args.self.now c.in_default.ensures

pub mark-requires : goal.mark-requires
mark-requires c = holder_within c.args.index.now.lives.now c.args.at c.in-Some.k c.args.self.now.marked.items c.requires ((c.in-Some.ensures c.in-Some.k).0 refl)

pub returns : goal.returns
returns c = holder_marked c.args.index.now.lives.now c.args.at c.in-Some.k c.args.self.now c.mark.new.self c.in-Some.ensures c.in_ok-mark.ensures
