use Rattle.std.proofs.Common.{ℕ, ◌<◌, ◌^◌, get_or}
use Rattle.patcher.specs.declared.patches.Patch.{Patch}
use Rattle.world.proofs.place.short_patches.Given as goal

abbrev pub invariant-loop-patch : goal.invariant-loop-patch
invariant-loop-patch l = (k : ℕ) (d : Patch) → k < l.patch-index → (get_or l.patches k d).word < 2 ^ 32
