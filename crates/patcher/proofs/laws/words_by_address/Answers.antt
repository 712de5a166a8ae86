use Rattle.patcher.proofs.Patching.{patched_text, patched_layouts}
use Rattle.patcher.proofs.laws.words_by_address.Goals as goal

pub returns-clause-text : goal.returns-clause-text
returns-clause-text c p new now lives q m f = patched_text p new now q.text m.of_text f.in_text

pub returns-clause-lives : goal.returns-clause-lives
returns-clause-lives c p new now lives q m f = patched_layouts p new lives q.lives m.of_lives f.in_lives
