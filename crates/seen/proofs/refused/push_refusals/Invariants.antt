use Rattle.std.proofs.Common.{◌≡◌, ◌++◌, take, string_bytes, flat_map}
use Rattle.seen.specs.Refusals.{refused_line}
use Rattle.seen.proofs.refused.push_refusals.Given as goal

abbrev pub invariant-loop-refused : goal.invariant-loop-refused
invariant-loop-refused l = string_bytes l.text ≡ string_bytes l.initial.text ++ flat_map (refused_line l.names) (take l.refused-index l.refusals)
