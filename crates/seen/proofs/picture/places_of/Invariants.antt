use Rattle.std.proofs.Common.{◌≡◌, ◌++◌, drop}
use Rattle.seen.specs.Pictures.{places_of}
use Rattle.seen.proofs.picture.places_of.Given as goal

abbrev pub invariant-loop-i : goal.invariant-loop-i
invariant-loop-i l = l.places ++ places_of (drop l.i l.words) ≡ places_of l.words
