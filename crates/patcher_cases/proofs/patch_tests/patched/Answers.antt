use Rattle.std.proofs.Common.{ap, map}
use Rattle.std.specs.Option.{option_copied}
use Rattle.patcher.specs.Texts.{text_span}
use Rattle.patcher_cases.proofs.patch_tests.patched.Goals as goal

pub apply-requires : goal.apply-requires
apply-requires c =
    c.fits.ensures c.args.image.now (option_copied c.args.new) c.args.text.now c.args.lives.now c.in-Ok.patches c.kept.ensures (ap (map text_span) c.requires) c.each_kept.ensures c.in-Ok.ensures.is
