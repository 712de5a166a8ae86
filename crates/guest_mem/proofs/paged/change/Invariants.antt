use Rattle.std.proofs.Common.{◌≡◌, ℕ, ◌<◌, ◌≤◌, length}
use Rattle.guest_mem.specs.Pages.{IsPageChanged}
use Rattle.guest_mem.specs.Paged.{page_of, part_from, part_length}
use Rattle.guest_mem.proofs.paged.change.Given as goal

abbrev pub invariant-loop-i : goal.invariant-loop-i
invariant-loop-i l = record {
  done : (i : ℕ) → i < l.i → IsPageChanged l.cleared (part_from l.range.from i) (part_length l.range.from l.range.to i) l.rights (page_of l.fn.pages i) (page_of l.pages i);
  rest : (i : ℕ) → l.i ≤ i → page_of l.pages i ≡ page_of l.fn.pages i;
  table : length l.pages ≡ 65536;
}
