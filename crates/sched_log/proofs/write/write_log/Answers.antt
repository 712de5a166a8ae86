use Rattle.std.proofs.Common.{rules}
use Rattle.sched_log.proofs.RoundTrip.{reads_back, reads_as_read}
use Rattle.sched_log.proofs.write.write_log.Goals as goal

pub returns-clause-back : goal.returns-clause-back
returns-clause-back c = λ image kept ranges. reads_back image c.args.events.now c.from_vec.result (search rules) kept (search rules) ranges

pub returns-clause-nothing_moved : goal.returns-clause-nothing_moved
returns-clause-nothing_moved c = λ image kept ranges. reads_as_read image c.args.events.now c.from_vec.result (search rules) kept (search rules) ranges
