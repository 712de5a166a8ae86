use Rattle.std.proofs.Common.{◌≡◌, take}
use Rattle.patcher.specs.Patched.{layouts_with}
use Rattle.patcher.proofs.apply.patch_layouts.Given as goal

abbrev pub invariant-loop-i : goal.invariant-loop-i
invariant-loop-i l = l.lives ≡ layouts_with (take l.i l.lists) l.fn.lives
