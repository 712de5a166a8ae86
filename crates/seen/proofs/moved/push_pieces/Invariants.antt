use Rattle.std.proofs.Common.{◌≡◌, ◌++◌, drop, string_bytes}
use Rattle.seen.specs.Moved.{pieces_text}
use Rattle.seen.proofs.moved.push_pieces.Given as goal

abbrev pub invariant-loop-i : goal.invariant-loop-i
invariant-loop-i l = string_bytes l.text ++ pieces_text l.names l.number (drop l.i l.words) ≡ string_bytes l.initial.text ++ pieces_text l.names l.number l.words
