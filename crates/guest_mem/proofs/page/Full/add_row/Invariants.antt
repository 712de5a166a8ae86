use Rattle.std.proofs.Common.{◌≡◌, ◌+◌, ◌-◌, ◌*◌, ◌++◌}
use Rattle.guest_mem.specs.Pages.{full_links}
use Rattle.guest_mem.proofs.page.Full.add_row.Given as goal

abbrev pub invariant-loop-k : goal.invariant-loop-k
invariant-loop-k l = l.found.items ≡ l.fn.found.items ++ full_links l.self l.first (l.first + 64 * l.row) (l.k - 64 * l.row)
