use Rattle.std.proofs.Common.{◌≡◌, ◌++◌, ◌+◌, ◌<◌, ◌^◌, map, drop}
use Rattle.std.specs.Prelude.{All}
use Rattle.std.specs.List.{filter_map}
use Rattle.finite.specs.First.{first_of}
use Rattle.blocks.specs.Words.{word_read, places_of}
use Rattle.blocks.specs.Faults.{word_fault}
use Rattle.blocks.proofs.read.read.Given as goal

abbrev pub invariant-loop-i : goal.invariant-loop-i
invariant-loop-i l = record {
  low : All (λ w. w.at + 4 < 2 ^ 64) l.words.items;
  words : l.words.items ++ filter_map (word_read l.image.texts) (drop l.i (places_of l.f)) ≡ filter_map (word_read l.image.texts) (places_of l.f);
  faults : first_of (map (word_fault l.image.texts l.f) (drop l.i (places_of l.f))) ≡ first_of (map (word_fault l.image.texts l.f) (places_of l.f));
}
