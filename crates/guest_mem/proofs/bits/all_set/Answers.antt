use Rattle.guest_mem.proofs.BitLaws.{masked}
use Rattle.guest_mem.proofs.bits.all_set.Goals as goal

pub returns : goal.returns
returns c = masked c.args.bits.now c.args.i c.args.n c.requires.byte
