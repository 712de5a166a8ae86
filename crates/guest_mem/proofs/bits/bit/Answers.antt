use Rattle.std.proofs.Common.{ap, nat_eq}
use Rattle.std.proofs.lemmas.Nat.Bits.{shr_and_one}
use Rattle.guest_mem.specs.Bits.{bit_in}
use Rattle.guest_mem.proofs.bits.bit.Goals as goal

pub returns : goal.returns
unfolding bit_in
returns c = ap (λ b. nat_eq b 1) (shr_and_one _ _)
