use Rattle.std.proofs.Common.{◌≡◌, ℕ, ◌/◌, length}
use Rattle.guest_mem.specs.Pages.{IsSamePage}
use Rattle.guest_mem.specs.Paged.{page_of, AreReady}
use Rattle.guest_mem.proofs.paged.make_ready.Given as goal

abbrev pub invariant-loop-i : goal.invariant-loop-i
invariant-loop-i l = record {
  same : (i : ℕ) → IsSamePage (page_of l.fn.pages i) (page_of l.pages i);
  ready : AreReady l.pages (l.range.from / 4096) l.i l.range.from l.range.to l.rights;
  table : length l.pages ≡ 65536;
}
