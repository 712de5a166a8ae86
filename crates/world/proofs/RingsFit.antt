-- Rings keep so few pairs that all of them can be counted.
use Rattle.std.proofs.Common.{ℕ, ◌^◌, ◌<◌, ◌≤◌, List, length, get_or, arith}
use Rattle.std.specs.Prelude.{All}
use Rattle.std.proofs.lemmas.List.Sums.{sum_by-le}
use Rattle.branch_ring.specs.Rings.{Notes}
use Rattle.branch_ring.specs.Profiles.{pair_count}
use Rattle.guest_sys.specs.Limits.{hart_limit}

few : (kept room : ℕ) → kept ≤ room → room < 2 ^ 32 → kept ≤ 2 ^ 32
few kept room most small = omega (arith, most, small)

pub counted_small : (rings : List Notes) → length rings ≤ hart_limit → All (λ r. (length r.pairs ≤ r.room) × (r.room < 2 ^ 32)) rings → pair_count rings < 2 ^ 62
counted_small rings harts all =
    let most = sum_by-le (λ (r : Notes). length r.pairs) (2 ^ 32) rings (λ i d lt. few (length (get_or rings i d).pairs) (get_or rings i d).room (all i d lt).0 (all i d lt).1) in
    omega (arith, harts, most)
