use Rattle.std.proofs.Common.{◌≡◌, ◌++◌}
use Rattle.std.specs.Option.{option_map}
use Rattle.placer.specs.Joined.{joined}
use Rattle.placer.proofs.spread.joined.Given as goal

abbrev pub invariant-loop-answer : goal.invariant-loop-answer
invariant-loop-answer l = option_map (λ rest. l.parts.items ++ rest) (joined l.answer-iterator.rest.items) ≡ joined l.fn.answers.items
