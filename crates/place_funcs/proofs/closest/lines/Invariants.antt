use Rattle.std.proofs.Common.{◌≡◌, take}
use Rattle.place_funcs.proofs.closest.lines.Given as goal

abbrev pub invariant-loop-i : goal.invariant-loop-i
invariant-loop-i l = l.all.items ≡ take l.i l.profile
