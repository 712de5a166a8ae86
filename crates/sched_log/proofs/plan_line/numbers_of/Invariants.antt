use Rattle.std.proofs.Common.{◌≡◌}
use Rattle.std.specs.Option.{option_copied}
use Rattle.texts.specs.Texts.{number_of}
use Rattle.sched_log.specs.Parts.{parts_behind}
use Rattle.sched_log.specs.Plans.{all_of, numbers_of}
use Rattle.sched_log.proofs.Pieces.{left, behind_all}
use Rattle.sched_log.proofs.plan_line.numbers_of.Given as goal

abbrev pub invariant-words : goal.invariant-words
invariant-words l = behind_all l.numbers (all_of number_of (parts_behind 32 (option_copied l.rest))) ≡ numbers_of l.fn.text

abbrev pub decreases-words : goal.decreases-words
decreases-words l = left (option_copied l.rest)
