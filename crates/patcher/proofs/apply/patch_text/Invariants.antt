use Rattle.std.proofs.Common.{◌≡◌, drop}
use Rattle.patcher.specs.Patched.{texts_with, FitsText}
use Rattle.patcher.proofs.apply.patch_text.Given as goal

abbrev pub invariant-loop-patch : goal.invariant-loop-patch
invariant-loop-patch l = record {
  rest : texts_with (drop l.patch-index l.patches) l.text ≡ texts_with l.patches l.fn.text;
  fits : FitsText l.text l.patches;
}
