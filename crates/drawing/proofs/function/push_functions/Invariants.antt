use Rattle.std.proofs.Common.{◌≡◌, ◌++◌, take, string_bytes, flat_map}
use Rattle.drawing.specs.Picture.{function_text}
use Rattle.drawing.proofs.function.push_functions.Given as goal

abbrev pub invariant-loop-f : goal.invariant-loop-f
invariant-loop-f l = string_bytes l.text ≡ string_bytes l.initial.text ++ flat_map (function_text l.s) (take l.f-index l.functions)
