use Rattle.std.proofs.Common.{◌≡◌, ◌++◌, drop, string_bytes}
use Rattle.report.specs.Text.{hart_lines}
use Rattle.report.proofs.text.push_harts.Given as goal

abbrev pub invariant-loop-h : goal.invariant-loop-h
invariant-loop-h l = string_bytes l.text ++ hart_lines l.h (drop l.h l.harts) ≡ string_bytes l.initial.text ++ hart_lines 0 l.harts
