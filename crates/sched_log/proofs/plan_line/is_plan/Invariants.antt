use Rattle.std.proofs.Common.{◌≡◌}
use Rattle.std.specs.List.{list_all}
use Rattle.std.specs.Option.{option_copied}
use Rattle.sched_log.specs.Parts.{parts_behind}
use Rattle.sched_log.specs.Plans.{is_part, pieces}
use Rattle.sched_log.proofs.Pieces.{left}
use Rattle.sched_log.proofs.plan_line.is_plan.Given as goal

abbrev pub invariant-pieces : goal.invariant-pieces
invariant-pieces l = list_all is_part (parts_behind 59 (option_copied l.rest)) ≡ list_all is_part (pieces l.fn.text)

abbrev pub decreases-pieces : goal.decreases-pieces
decreases-pieces l = left (option_copied l.rest)
