use Rattle.std.proofs.Common.{◌≡◌, ◌*◌}
use Rattle.guest_mem.specs.Paged.{paged_links}
use Rattle.guest_mem.proofs.paged.links_in.Given as goal

abbrev pub invariant-loop-i : goal.invariant-loop-i
invariant-loop-i l = l.found.items ≡ paged_links l.pages 0 (512 * l.i)
