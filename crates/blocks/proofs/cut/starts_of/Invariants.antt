use Rattle.std.proofs.Common.{◌≡◌, ℕ, ◌==◌, take}
use Rattle.std.specs.Prelude.{◌||◌}
use Rattle.std.specs.Ordering.{nat_cmp}
use Rattle.std.specs.BTreeSet.{contains}
use Rattle.std.specs.List.{list_any}
use Rattle.blocks.specs.Blocks.{marks}
use Rattle.blocks.proofs.cut.starts_of.Given as goal

abbrev pub invariant-loop-w : goal.invariant-loop-w
invariant-loop-w l = (q : ℕ) → contains nat_cmp l.starts q ≡ ((l.f.from == q) || list_any (marks l.f q) (take l.w-index l.words))
