use Rattle.std.proofs.Common.{ap}
use Rattle.std.specs.Option.{option_copied}
use Rattle.sched_log.proofs.Pieces.{some_read}
use Rattle.sched_log.proofs.plan_line.parts_of.Goals as goal

pub returns-clause-some : goal.returns-clause-some
returns-clause-some c = some_read c.args.text.now c.pieces.parts (option_copied c.pieces.rest) (ap option_copied c.in_default.is) c.pieces.invariant
