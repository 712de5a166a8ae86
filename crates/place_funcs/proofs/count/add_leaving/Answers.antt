use Rattle.std.proofs.Common.{arith}
use Rattle.place_funcs.specs.Counts.{has_pair}
use Rattle.place_funcs.proofs.Tallied.{leaving_counted, row_there}
use Rattle.place_funcs.proofs.count.add_leaving.Goals as goal

pub count_once-requires-clause-there : goal.count_once-requires-clause-there
count_once-requires-clause-there c = row_there c.args.funcs.now c.args.profile.now c.leaving-row-items.result.now c.args.f c.loop-row.row-index (record { from = 0; to = 0; count = 0 }) c.leaving-row-items.ensures c.loop-row-test.true

pub returns-clause-seen : goal.returns-clause-seen
returns-clause-seen c =
    leaving_counted c.args.funcs.now c.args.profile.now c.leaving-row-items.result.now c.args.f c.loop-row.row-index (has_pair c.args.tally.now.seen) (has_pair c.loop-row.tally.seen)
    c.leaving-row-items.ensures (omega (arith, c.loop-row-test.false)) c.loop-row.invariant.seen
