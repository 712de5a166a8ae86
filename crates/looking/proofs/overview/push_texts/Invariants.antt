use Rattle.std.proofs.Common.{◌≡◌, ◌++◌, take, string_bytes, flat_map}
use Rattle.looking.specs.Overview.{text_line}
use Rattle.looking.proofs.overview.push_texts.Given as goal

abbrev pub invariant-loop-t : goal.invariant-loop-t
invariant-loop-t l = string_bytes l.text ≡ string_bytes l.initial.text ++ flat_map text_line (take l.t-index l.texts)
