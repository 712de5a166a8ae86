use Rattle.std.proofs.Common.{◌∙◌, sym}
use Rattle.guest_mem.proofs.BitLaws.{no_bit_at, ones_at}
use Rattle.guest_mem.proofs.bits.same_bits.Goals as goal

pub returns-then-on : goal.returns-then-on
returns-then-on c j h = ones_at 64 j h ∙ sym c.if-on.true

pub returns-else-on : goal.returns-else-on
returns-else-on c j h = no_bit_at 64 j ∙ sym c.if-on.false
