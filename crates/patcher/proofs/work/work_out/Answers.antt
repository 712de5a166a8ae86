use Rattle.std.proofs.Common.{subst, rules}
use Rattle.std.specs.Prelude.{All}
use Rattle.image.specs.Picture.{Picture}
use Rattle.layout.specs.Alone.{NamesCalls}
use Rattle.patcher.proofs.work.work_out.Goals as goal

pub lives_patches-requires : goal.lives_patches-requires
lives_patches-requires c = subst (λ (p : Picture). All (NamesCalls p) c.args.lives.now) (search rules) c.requires
