use Rattle.relocs.specs.Holders.{IsIndex}
use Rattle.relocs.proofs.holders.places.Given as goal

abbrev pub invariant-loop-i : goal.invariant-loop-i
invariant-loop-i l = IsIndex l.segments l.i l.places
