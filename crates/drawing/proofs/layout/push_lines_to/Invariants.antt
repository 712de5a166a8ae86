use Rattle.std.proofs.Common.{◌≡◌, ◌++◌, take, string_bytes, flat_map}
use Rattle.drawing.specs.Picture.{line_text}
use Rattle.drawing.proofs.layout.push_lines_to.Given as goal

abbrev pub invariant-loop-p : goal.invariant-loop-p
invariant-loop-p l = string_bytes l.text ≡ string_bytes l.initial.text ++ flat_map (line_text l.upper l.lower l.functions) (take l.p-index l.places)
