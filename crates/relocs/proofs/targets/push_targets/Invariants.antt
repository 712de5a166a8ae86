use Rattle.std.proofs.Common.{◌≡◌, ◌++◌, ◌+◌, ◌*◌, drop}
use Rattle.std.specs.List.{filter_map}
use Rattle.image.specs.Texts.{words_from, aim_of}
use Rattle.relocs.proofs.targets.push_targets.Given as goal

abbrev pub invariant-loop-i : goal.invariant-loop-i
invariant-loop-i l = l.out.items ++ filter_map aim_of (words_from (l.start + 4 * l.i) (drop l.i l.words)) ≡ l.initial.out.items ++ filter_map aim_of (words_from l.start l.words)
