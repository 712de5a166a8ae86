use Rattle.std.proofs.Common.{◌≡◌}
use Rattle.std.specs.Option.{option_copied}
use Rattle.sched_log.specs.Parts.{parts_behind}
use Rattle.sched_log.specs.Plans.{any_empty, words}
use Rattle.sched_log.proofs.Pieces.{left}
use Rattle.sched_log.proofs.plan_line.are_words.Given as goal

abbrev pub invariant-words : goal.invariant-words
invariant-words l = any_empty (parts_behind 32 (option_copied l.rest)) ≡ any_empty (words l.fn.text)

abbrev pub decreases-words : goal.decreases-words
decreases-words l = left (option_copied l.rest)
