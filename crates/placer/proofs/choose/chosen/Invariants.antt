use Rattle.std.proofs.Common.{◌≡◌}
use Rattle.std.specs.List.{filter, range_with_len}
use Rattle.placer.specs.Chosen.{is_chosen}
use Rattle.placer.proofs.choose.chosen.Given as goal

abbrev pub invariant-loop-f : goal.invariant-loop-f
invariant-loop-f l = l.funcs.items ≡ filter (is_chosen l.index.image.now l.profile) (range_with_len 0 l.f)
