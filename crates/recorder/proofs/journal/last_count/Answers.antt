use Rattle.std.proofs.Common.{sym}
use Rattle.recorder.proofs.Counting.{lengthens, lengthens_none}
use Rattle.recorder.proofs.journal.last_count.Goals as goal

pub returns-in-Some : goal.returns-in-Some
returns-in-Some c = lengthens c.args.asked c.args.entries.now c.in-Some.entry.now c.count_in.result (sym c.in-Some.ensures.value) c.count_in.ensures

pub returns-in-None : goal.returns-in-None
returns-in-None c = lengthens_none c.args.asked c.args.entries.now (sym c.in-None.ensures.value)
