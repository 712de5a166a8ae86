use Rattle.std.proofs.Common.{◌≡◌, ◌++◌, take, string_bytes, flat_map}
use Rattle.report.specs.Text.{refusal_line}
use Rattle.report.proofs.text.push_refusals.Given as goal

abbrev pub invariant-loop-refused : goal.invariant-loop-refused
invariant-loop-refused l = string_bytes l.text ≡ string_bytes l.initial.text ++ flat_map refusal_line (take l.refused-index l.refusals)
