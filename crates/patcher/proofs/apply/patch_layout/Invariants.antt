use Rattle.std.proofs.Common.{◌≡◌, drop}
use Rattle.patcher.specs.Patched.{layout_with, FitsLayout}
use Rattle.patcher.proofs.apply.patch_layout.Given as goal

abbrev pub invariant-loop-patch : goal.invariant-loop-patch
invariant-loop-patch l = record {
  rest : layout_with (drop l.patch-index l.patches) l.layout ≡ layout_with l.patches l.fn.layout;
  fits : FitsLayout l.layout l.patches;
}
