use Rattle.std.proofs.Common.{◌≡◌, take}
use Rattle.func_names.specs.Names.{names_of}
use Rattle.func_names.proofs.names_of.Given as goal

abbrev pub invariant-loop-f : goal.invariant-loop-f
invariant-loop-f l = l.names.items ≡ names_of l.symbols (take l.f-index l.funcs)
