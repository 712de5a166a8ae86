use Rattle.std.proofs.Common.{◌≡◌, ◌++◌, drop}
use Rattle.guest_sys.specs.Waiting.{first_at, others}
use Rattle.guest_sys.proofs.waiting.split.Given as goal

-- each list, and what the harts still to come add to it
abbrev pub invariant-loop-waiter : goal.invariant-loop-waiter
invariant-loop-waiter l =
    (l.first ++ first_at l.left l.at (drop l.waiter-index l.waiting) ≡ first_at l.count l.at l.waiting)
    × (l.others ++ others l.left l.at (drop l.waiter-index l.waiting) ≡ others l.count l.at l.waiting)
