use Rattle.std.proofs.Common.{◌≡◌, ◌++◌, map}
use Rattle.relocs.specs.Named.{aim_entry}
use Rattle.relocs.proofs.aims.listed.Given as goal

abbrev pub invariant-loop-at : goal.invariant-loop-at
invariant-loop-at l = map aim_entry l.all.items ++ l.at-iterator ≡ l.aims.entries
