use Rattle.std.proofs.Common.{◌≡◌, ◌++◌, take}
use Rattle.std.specs.List.{flat_map}
use Rattle.emit.specs.Entries.{calls_of, word_entries}
use Rattle.emit.proofs.unplaced.push_words.Given as goal

abbrev pub invariant-loop-w : goal.invariant-loop-w
invariant-loop-w g l = l.out.items ≡ l.initial.out.items ++ flat_map (word_entries (calls_of l.c.image.now l.c.parts.now) l.f (g.F.Far.far l.far) l.next) (take l.w-index l.words)
