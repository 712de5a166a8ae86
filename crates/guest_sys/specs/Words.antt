-- The words that get a tid, as ranges.
use Rattle.std.specs.Prelude.{ℕ, ◌+◌}
use Rattle.oc_base.specs.declared.range.Range.{Range}

abbrev pub word_range : ℕ → Range
word_range a = record { from = a; to = a + 4 }
