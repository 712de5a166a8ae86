use Rattle.std.proofs.Common.{◌≡◌, ◌++◌, drop, string_bytes}
use Rattle.looking.specs.Functions.{func_lines}
use Rattle.looking.proofs.func.push_funcs.Given as goal

abbrev pub invariant-loop-n : goal.invariant-loop-n
invariant-loop-n l = string_bytes l.text ++ func_lines l.index.image.now l.names l.n (drop l.n l.funcs) ≡ string_bytes l.initial.text ++ func_lines l.index.image.now l.names 0 l.funcs
