use Rattle.std.proofs.Common.{◌≡◌}
use Rattle.guest_mem.specs.Memory.{bytes_from}
use Rattle.guest_mem.specs.Access.{seen}
use Rattle.guest_mem.proofs.transfer.taken.Given as goal

abbrev pub invariant-loop-k : goal.invariant-loop-k
invariant-loop-k g l = l.taken.items ≡ bytes_from (seen (g.O.Origins.origin l.origins) (g.S.WordStore.contents l.store)) l.at l.k
