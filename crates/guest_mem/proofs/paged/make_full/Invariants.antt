use Rattle.std.proofs.Common.{◌≡◌, ℕ, ◌<◌, ◌≤◌, true, length}
use Rattle.guest_mem.specs.Pages.{IsSamePage, is_full}
use Rattle.guest_mem.specs.Paged.{page_of}
use Rattle.guest_mem.proofs.paged.make_full.Given as goal

abbrev pub invariant-loop-i : goal.invariant-loop-i
invariant-loop-i l = record {
  same : (i : ℕ) → IsSamePage (page_of l.fn.pages i) (page_of l.pages i);
  made : (i : ℕ) → l.first ≤ i → i < l.i → is_full (page_of l.pages i) ≡ true;
  kept : (i : ℕ) → is_full (page_of l.fn.pages i) ≡ true → is_full (page_of l.pages i) ≡ true;
  table : length l.pages ≡ length l.fn.pages;
}
