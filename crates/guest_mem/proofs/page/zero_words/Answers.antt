use Rattle.guest_mem.proofs.BitLaws.{zeros_at}
use Rattle.guest_mem.proofs.page.zero_words.Goals as goal

pub returns : goal.returns
returns c = zeros_at 512
