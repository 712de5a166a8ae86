use Rattle.std.proofs.Common.{◌≡◌, ◌+◌, ◌*◌, drop}
use Rattle.machine.specs.Start.{with_words}
use Rattle.machine.proofs.start.write_words.Given as goal

-- the words that are left make the same, and the next stands behind those before
abbrev pub invariant-loop-word : goal.invariant-loop-word
invariant-loop-word l = (with_words l.at (drop l.word-index l.words) l.memory.contents ≡ with_words l.from l.words l.fn.memory.contents) × (l.at ≡ l.from + 8 * l.word-index)
