use Rattle.std.proofs.Common.{◌≡◌, ◌++◌, drop, string_bytes}
use Rattle.drawing.specs.Picture.{strips_text}
use Rattle.drawing.proofs.layout.push_strips.Given as goal

abbrev pub invariant-loop-i : goal.invariant-loop-i
invariant-loop-i l = string_bytes l.text ++ strips_text l.functions l.i (drop l.i l.layouts) ≡ string_bytes l.initial.text ++ strips_text l.functions 0 l.layouts
