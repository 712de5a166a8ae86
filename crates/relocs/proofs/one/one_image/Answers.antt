use Rattle.relocs.proofs.OneImage.{one_image}
use Rattle.relocs.proofs.one.one_image.Goals as goal

pub returns : goal.returns
returns c = one_image
