use Rattle.std.proofs.Common.{◌≡◌, replicate}
use Rattle.guest_mem.specs.Paged.{no_page}
use Rattle.guest_mem.proofs.paged.PagedMem.new.Given as goal

abbrev pub invariant-loop : goal.invariant-loop
invariant-loop l = l.pages.items ≡ replicate l.counter no_page
