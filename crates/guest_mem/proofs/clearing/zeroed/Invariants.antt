use Rattle.std.proofs.Common.{◌≡◌, ℕ, ◌+◌, ◌-◌, ◌*◌, ◌<◌, ◌&&◌, nat_lt, cond, length, get_or}
use Rattle.finite.specs.Maps.{within}
use Rattle.guest_mem.proofs.clearing.zeroed.Given as goal

abbrev pub invariant-loop-j : goal.invariant-loop-j
invariant-loop-j l = record {
  full : length l.bytes ≡ 8;
  bytes : (i : ℕ) → i < 8 → get_or l.bytes i 0 ≡ cond (nat_lt i l.j && within l.range.from (l.range.to - l.range.from) (8 * l.w + i)) 0 (get_or l.fn.old.bytes i 0);
}
