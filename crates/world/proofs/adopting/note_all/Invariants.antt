use Rattle.std.proofs.Common.{◌≡◌, drop}
use Rattle.world.specs.Adopting.{with_transfers}
use Rattle.world.proofs.adopting.note_all.Given as goal

-- what is left makes of them what all were to make
abbrev pub invariant-loop-transfer : goal.invariant-loop-transfer
invariant-loop-transfer l = with_transfers l.h (drop l.transfer-index l.transfers) l.rings ≡ with_transfers l.h l.transfers l.fn.rings
