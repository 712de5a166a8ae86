use Rattle.std.proofs.Common.{◌≡◌, ◌++◌, drop, string_bytes}
use Rattle.drawing.specs.Picture.{lines_text}
use Rattle.drawing.proofs.layout.push_lines.Given as goal

abbrev pub invariant-loop-i : goal.invariant-loop-i
invariant-loop-i l = string_bytes l.text ++ lines_text l.upper l.functions l.i (drop l.i l.layouts) ≡ string_bytes l.initial.text ++ lines_text l.upper l.functions 0 l.layouts
