use Rattle.std.proofs.Common.{◌≡◌}
use Rattle.std.specs.Option.{option_copied}
use Rattle.sched_log.specs.Parts.{parts_behind}
use Rattle.sched_log.specs.Plans.{all_of, moved_of, parts_of}
use Rattle.sched_log.proofs.Pieces.{left, behind_all}
use Rattle.sched_log.proofs.plan_line.parts_of.Given as goal

abbrev pub invariant-pieces : goal.invariant-pieces
invariant-pieces l = behind_all l.parts (all_of moved_of (parts_behind 59 (option_copied l.rest))) ≡ parts_of l.fn.text

abbrev pub decreases-pieces : goal.decreases-pieces
decreases-pieces l = left (option_copied l.rest)
