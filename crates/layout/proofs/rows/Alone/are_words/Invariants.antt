use Rattle.std.proofs.Common.{◌≡◌, ℕ, ◌<◌, ◌+◌, ◌*◌, true}
use Rattle.layout.specs.Tests.{word_test}
use Rattle.layout.proofs.rows.Alone.are_words.Given as goal

abbrev pub invariant-loop-k : goal.invariant-loop-k
invariant-loop-k l = (k : ℕ) → k < l.k → word_test l.self.image.now l.self.layout.now (l.self.layout.now.base + 4 * k) ≡ true
