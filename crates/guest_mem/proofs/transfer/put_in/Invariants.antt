use Rattle.std.proofs.Common.{◌≡◌, ℕ, ◌+◌, ◌-◌, ◌*◌, ◌<◌, ◌&&◌, nat_lt, cond, length, get_or}
use Rattle.finite.specs.Maps.{within}
use Rattle.guest_mem.specs.Words.{plain_bytes_of}
use Rattle.guest_mem.proofs.transfer.put_in.Given as goal

abbrev pub invariant-loop-j : goal.invariant-loop-j
invariant-loop-j g l = record {
  full : length l.result ≡ 8;
  bytes : (i : ℕ) → i < 8 → get_or l.result i 0 ≡ cond (nat_lt i l.j && within l.at (length l.bytes) (8 * l.w + i)) (get_or l.bytes (8 * l.w + i - l.at) 0) (get_or (plain_bytes_of (g.O.Origins.origin l.origins) l.fn.old) i 0);
}
