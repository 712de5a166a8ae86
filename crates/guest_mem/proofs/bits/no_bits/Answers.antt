use Rattle.guest_mem.proofs.BitLaws.{no_bit_at}
use Rattle.guest_mem.proofs.bits.no_bits.Goals as goal

pub returns : goal.returns
returns c = no_bit_at 8
