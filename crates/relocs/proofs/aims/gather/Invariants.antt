use Rattle.std.proofs.Common.{◌≡◌, ℕ, take}
use Rattle.std.specs.Ordering.{nat_cmp}
use Rattle.std.specs.BTreeMap.{get}
use Rattle.relocs.specs.Named.{aim_at}
use Rattle.relocs.proofs.aims.gather.Given as goal

abbrev pub invariant-loop-r : goal.invariant-loop-r
invariant-loop-r g l = (q : ℕ) → get nat_cmp l.aims q ≡ aim_at (g.R.Rule.takes l.rule) (g.R.Rule.aim l.rule) (take l.r-index l.relocs) q
