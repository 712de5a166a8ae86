use Rattle.std.proofs.Common.{◌≡◌, map, drop}
use Rattle.texts.specs.Texts.{number_of}
use Rattle.sched_log.specs.Plans.{all_of}
use Rattle.sched_log.proofs.Pieces.{behind_all}
use Rattle.script_words.proofs.line_parts.read_words.Given as goal

abbrev pub invariant-loop-word : goal.invariant-loop-word
invariant-loop-word l = behind_all l.numbers (all_of number_of (drop l.word-index (map (λ w. w.now) l.words))) ≡ all_of number_of (map (λ w. w.now) l.words)
