use Rattle.std.proofs.Common.{◌≡◌, ◌++◌, take, string_bytes, flat_map}
use Rattle.looking.specs.Listing.{word_line}
use Rattle.looking.proofs.listing.push_words.Given as goal

abbrev pub invariant-loop-w : goal.invariant-loop-w
invariant-loop-w l = string_bytes l.text ≡ string_bytes l.initial.text ++ flat_map word_line (take l.w-index l.words)
