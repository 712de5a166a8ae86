use Rattle.std.proofs.Common.{◌≡◌, ◌≤◌, drop, length, find}
use Rattle.image.specs.declared.ranges.Func.{Func}
use Rattle.func_names.specs.Names.{is_of}
use Rattle.func_names.specs.Firsts.{first_of}
use Rattle.func_names.proofs.firsts_of.Given as goal

abbrev pub decreases-loop-i : goal.decreases-loop-i
decreases-loop-i l = l.i

abbrev pub invariant-loop-i : goal.invariant-loop-i
invariant-loop-i l = record {
  within : l.i ≤ length l.symbols;
  found : (f : Func) → f.from ≤ f.to → first_of l.firsts f ≡ find (is_of f) (drop l.i l.symbols);
}
