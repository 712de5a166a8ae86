use Rattle.patcher.proofs.Patching.{fits}
use Rattle.patcher.proofs.laws.fits.Goals as goal

pub returns : goal.returns
returns c = fits
