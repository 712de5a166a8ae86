use Rattle.std.proofs.Common.{◌≡◌, ◌++◌, map, take}
use Rattle.script_words.specs.Words.{shown_byte}
use Rattle.script_words.proofs.push_shown.Given as goal

abbrev pub invariant-loop-b : goal.invariant-loop-b
invariant-loop-b l = l.words ≡ l.initial.words ++ map shown_byte (take l.b-index l.text)
