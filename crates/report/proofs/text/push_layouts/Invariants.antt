use Rattle.std.proofs.Common.{◌≡◌, ◌++◌, take, string_bytes, flat_map}
use Rattle.report.specs.Text.{layout_line}
use Rattle.report.proofs.text.push_layouts.Given as goal

abbrev pub invariant-loop-layout : goal.invariant-loop-layout
invariant-loop-layout l = string_bytes l.text ≡ string_bytes l.initial.text ++ flat_map layout_line (take l.layout-index l.layouts)
