use Rattle.std.proofs.Common.{◌≡◌, length}
use Rattle.guest_mem.specs.Words.{IsSpliced}
use Rattle.guest_mem.proofs.bytes.spliced.Given as goal

abbrev pub invariant-loop-k : goal.invariant-loop-k
invariant-loop-k l = (length l.result ≡ 8) × IsSpliced l.fn.into l.off l.k l.from l.result
