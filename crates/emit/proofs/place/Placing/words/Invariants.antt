use Rattle.std.proofs.Common.{◌≡◌, length}
use Rattle.emit.specs.Placed.{AreMade, AreInReach}
use Rattle.emit.proofs.place.Placing.words.Given as goal

abbrev pub invariant-loop-i : goal.invariant-loop-i
invariant-loop-i l = record {
  size : length l.words.items ≡ l.i;
  made : AreMade l.self.base l.self.entries.now l.words.items;
  reach : AreInReach l.self.base l.self.entries.now l.i;
}
