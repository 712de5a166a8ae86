use Rattle.std.proofs.Common.{◌≡◌, drop}
use Rattle.ahead.specs.Flown.{compared_values}
use Rattle.ahead.proofs.FirstApart.{told}
use Rattle.ahead.proofs.comparing.apart_values.Given as goal

abbrev pub invariant-loop-i : goal.invariant-loop-i
invariant-loop-i l = told (compared_values l.kept l.brought) ≡ told (compared_values (drop l.i l.kept) (drop l.i l.brought))
